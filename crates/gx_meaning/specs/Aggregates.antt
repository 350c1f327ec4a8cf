-- The aggregates of a column over rows.
use Rattle.std.specs.Prelude.{ℕ, ℤ, pos, ◌+ℤ◌, if◌then◌else◌, List, [], ◌∷◌, length, slice_get, Option, Some, None}
use Rattle.std.specs.Int.{int_wrap, w128}
use Rattle.std.specs.List.{flat_map}
use Rattle.std.specs.Option.{option_to_list}
use Rattle.std.specs.Ordering.{is_gt}
use Rattle.gx_tree.specs.Value.{value_order}
use Rattle.gx_tree.specs.declared.cell.Cell.{Cell}
use Rattle.gx_tree.specs.declared.cell.Cell.TheVariants as cell
use Rattle.gx_tree.specs.declared.query.Item.{Item}
use Rattle.gx_tree.specs.declared.query.Item.TheVariants.{Col, Count, Sum, Min, Max}
use Rattle.gx_tree.specs.declared.row.KeyedRow.{KeyedRow}
use Rattle.gx_tree.specs.declared.value.Value.{Value}
use Rattle.gx_tree.specs.declared.value.Value.TheVariants.{Int, Text}

abbrev pub cell_of : Value → Cell
cell_of (Int number) = cell.Int number
cell_of (Text text) = cell.Text text

abbrev pub cell_at : Option Value → Cell
cell_at (Some value) = cell_of value
cell_at None = cell.Null

-- a number as 128 bits hold it
abbrev pub number_cell : ℤ → Cell
number_cell z = cell.Int (int_wrap w128 z)

-- the values of a column
abbrev pub column : ℕ → List KeyedRow → List Value
column place rows = flat_map (λ row. option_to_list (slice_get row.row place)) rows

-- the number in a value that is one
abbrev pub numbers_in : Value → List ℤ
numbers_in (Int number) = number ∷ []
numbers_in (Text _) = []

abbrev pub total : List ℤ → ℤ
total [] = pos 0
total (n ∷ ns) = n +ℤ total ns

-- a sum; over nothing it is null
abbrev pub sum_cell : List ℤ → Cell
sum_cell [] = cell.Null
sum_cell (n ∷ ns) = number_cell (total (n ∷ ns))

-- the lesser of two values, and the greater
abbrev pub lesser : Value → Value → Value
lesser a b = if is_gt (value_order a b) then b else a

abbrev pub greater : Value → Value → Value
greater a b = if is_gt (value_order a b) then a else b

-- a choice between two values of which one may be missing
abbrev pub either : (Value → Value → Value) → Option Value → Option Value → Option Value
either choose None b = b
either choose (Some a) None = Some a
either choose (Some a) (Some b) = Some (choose a b)

-- one of the values by a choice between two
abbrev pub chosen : (Value → Value → Value) → List Value → Option Value
chosen choose [] = None
chosen choose (v ∷ vs) = either choose (Some v) (chosen choose vs)

-- an aggregate over rows; a column by itself is none
abbrev pub aggregate : List KeyedRow → Item → Cell
aggregate rows (Col place) = cell.Null
aggregate rows Count = number_cell (pos (length rows))
aggregate rows (Sum place) = sum_cell (flat_map numbers_in (column place rows))
aggregate rows (Min place) = cell_at (chosen lesser (column place rows))
aggregate rows (Max place) = cell_at (chosen greater (column place rows))
