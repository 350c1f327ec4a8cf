-- The columns of a table by their names.
use Rattle.std.specs.Prelude.{ℕ, ◌+◌, nat_eq, if◌then◌else◌, List, [], ◌∷◌, Option, Some, None}
use Rattle.std.specs.Cmp.Lexicographic.{pointwise}
use Rattle.gx_tree.specs.declared.schema.Column.{Column}
use Rattle.gx_tree.specs.declared.schema.Kind.{Kind}

-- the place, counted from a number on, and the kind of the first column of this name
abbrev pub column_from : ℕ → List ℕ → List Column → Option (ℕ × Kind)
column_from place name [] = None
column_from place name (c ∷ cs) = if pointwise nat_eq c.name name then Some (place, c.kind) else column_from (place + 1) name cs

abbrev pub column_of : List ℕ → List Column → Option (ℕ × Kind)
column_of name columns = column_from 0 name columns
