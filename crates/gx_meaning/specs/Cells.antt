-- How the aggregates over two lists of rows give those over both.
use Rattle.std.specs.Prelude.{◌+ℤ◌, Bool, true, false, not, ◌&&◌, ◌||◌, if◌then◌else◌, List, map, Option, Some, None}
use Rattle.std.specs.List.{zip}
use Rattle.std.specs.Ordering.{int_cmp, nat_cmp, is_gt}
use Rattle.std.specs.Cmp.Lexicographic.{slice_cmp}
use Rattle.std.specs.declared.cmp.Ordering.{Ordering}
use Rattle.std.specs.declared.cmp.Ordering.TheVariants.{Less, Equal, Greater}
use Rattle.gx_tree.specs.declared.cell.Cell.{Cell}
use Rattle.gx_tree.specs.declared.cell.Cell.TheVariants.{Int, Text, Null}
use Rattle.gx_tree.specs.declared.query.Item.{Item}
use Rattle.gx_tree.specs.declared.query.Item.TheVariants.{Col, Count, Sum, Min, Max}
use Rattle.gx_tree.specs.declared.value.Value.{Value}
use Rattle.gx_tree.specs.declared.value.Value.TheVariants as value
use Rattle.gx_meaning.specs.Aggregates.{number_cell}

-- a value's number; a text has none
abbrev pub number_at : Option Value → Cell
number_at None = Null
number_at (Some (value.Int number)) = Int number
number_at (Some (value.Text _)) = Null

abbrev pub is_null : Cell → Bool
is_null Null = true
is_null _ = false

-- numbers by value, texts by their bytes; a number stands before a text
abbrev pub cell_order : Cell → Cell → Ordering
cell_order (Int m) (Int n) = int_cmp m n
cell_order (Text s) (Text t) = slice_cmp nat_cmp s t
cell_order (Int _) (Text _) = Less
cell_order (Text _) (Int _) = Greater
cell_order _ _ = Equal

-- null gives way to the other cell
abbrev pub add : Cell → Cell → Cell
add (Int m) (Int n) = number_cell (m +ℤ n)
add Null b = b
add a _ = a

abbrev pub lesser_cell : Cell → Cell → Cell
lesser_cell a b = if is_null a || (not (is_null b) && is_gt (cell_order a b)) then b else a

abbrev pub greater_cell : Cell → Cell → Cell
greater_cell a b = if is_null a || (not (is_null b) && not (is_gt (cell_order a b))) then b else a

abbrev pub combine : Item → Cell → Cell → Cell
combine (Col column) a b = Null
combine Count a b = add a b
combine (Sum column) a b = add a b
combine (Min column) a b = lesser_cell a b
combine (Max column) a b = greater_cell a b

-- item by item
abbrev pub combine_all : List Item → List Cell → List Cell → List Cell
combine_all items a b = map (λ p. combine p.0 p.1.0 p.1.1) (zip items (zip a b))
