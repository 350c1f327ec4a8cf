-- The groups of rows by the values of their GROUP BY columns.
use Rattle.std.specs.Prelude.{ℕ, suc, Bool, not, ◌==◌, if◌then◌else◌, List, [], ◌∷◌, map, filter, slice_get}
use Rattle.std.specs.Ordering.{is_eq}
use Rattle.gx_meaning.specs.Expressions.{column_of}
use Rattle.gx_tree.specs.declared.cell.Cell.{Cell}
use Rattle.gx_tree.specs.declared.query.Item.{Item}
use Rattle.gx_tree.specs.declared.query.Item.TheVariants.{Col}
use Rattle.gx_tree.specs.declared.row.KeyedRow.{KeyedRow}
use Rattle.gx_tree.specs.declared.value.Value.{Value}
use Rattle.gx_meaning.specs.Aggregates.{aggregate, cell_at}
use Rattle.gx_meaning.specs.Order.{rising}

-- the values of a row's GROUP BY columns
abbrev pub key_of : List ℕ → KeyedRow → List Value
key_of group row = map (column_of row.row) group

abbrev pub is_same_key : List Value → List Value → Bool
is_same_key a b = is_eq (rising a b)

-- each item once, where it stands first
abbrev pub once : {X : Type 0} → (X → X → Bool) → List X → List X
once same [] = []
once same (x ∷ xs) = x ∷ filter (λ y. not (same x y)) (once same xs)

-- the keys of the groups; without GROUP BY all rows are one group, also where there is none
abbrev pub keys_of : List ℕ → List KeyedRow → List (List Value)
keys_of [] rows = [] ∷ []
keys_of (column ∷ columns) rows = once is_same_key (map (key_of (column ∷ columns)) rows)

-- the rows of a group
abbrev pub members : List ℕ → List KeyedRow → List Value → List KeyedRow
members group rows key = filter (λ row. is_same_key key (key_of group row)) rows

-- the place of a column among the GROUP BY columns
abbrev pub place_of : List ℕ → ℕ → ℕ
place_of [] column = 0
place_of (first ∷ columns) column = if first == column then 0 else suc (place_of columns column)

-- what an item gives for a group: a GROUP BY column's value, or an aggregate over the group's rows
abbrev pub group_cell : List ℕ → List KeyedRow → List Value → Item → Cell
group_cell group rows key (Col column) = cell_at (slice_get key (place_of group column))
group_cell group rows key item = aggregate (members group rows key) item
