-- What a reader of statements knows of its tables.
use Rattle.std.specs.Prelude.{ℕ, ◌≤◌, List, map, Option, Some, None}
use Rattle.gx_tree.specs.declared.stmt.Stmt.{Stmt}
use Rattle.gx_tree.specs.declared.stmt.Stmt.TheVariants as stmt
use Rattle.gx_tree.specs.declared.schema.Column.{Column}
use Rattle.gx_tree.specs.declared.schema.Schema.{Schema}
use Rattle.gx_grammar.specs.declared.fault.Limits.{Limits}
use Rattle.gx_meaning.specs.Statements.{AreDistinct, column_text}
use Rattle.gx_print.specs.Shapes.{IsName}
use Rattle.gx_print.specs.Limited.{Each, Some_each, IsShort}

-- a name of the language that is short enough
abbrev pub IsNamed : Limits → List ℕ → Type 0
IsNamed d n = IsName n × IsShort d n

abbrev pub IsColumnOf : Limits → Column → Type 0
IsColumnOf d c = IsNamed d c.name

-- a table has at least one column, and distinct names
pub record IsTable (d : Limits) (table : Schema) : Type 0 where
  pub name : IsNamed d table.name
  pub columns : Some_each (IsColumnOf d) table.columns
  pub distinct : AreDistinct (map column_text table.columns)

abbrev pub AreTables : Limits → List Schema → Type 0
AreTables d tables = Each (IsTable d) tables

-- a LIMIT has 64 bits
abbrev pub IsSized : Option ℕ → Type 0
IsSized None = Unit {0}
IsSized (Some n) = n ≤ 18446744073709551615

abbrev pub HasSize : Stmt → Type 0
HasSize (stmt.Select q) = IsSized q.limit
HasSize _ = Unit {0}
