-- The aggregates of a group to which a row is added, item by item, and the one group of all rows.
use Rattle.std.specs.Prelude.{ℕ, zero, suc, List, [], ◌∷◌, map}
use Rattle.gx_tree.specs.declared.cell.Cell.{Cell}
use Rattle.gx_tree.specs.declared.query.Item.{Item}
use Rattle.gx_tree.specs.declared.part.Group.{Group}
use Rattle.gx_tree.specs.declared.row.KeyedRow.{KeyedRow}
use Rattle.gx_meaning.specs.Aggregates.{aggregate}
use Rattle.gx_meaning.specs.Cells.{combine}

-- the cell at a place with more, where there is one
abbrev pub added_at : Item → Cell → ℕ → List Cell → List Cell
added_at item more place [] = []
added_at item more zero (cell ∷ cells) = combine item cell more ∷ cells
added_at item more (suc place) (cell ∷ cells) = cell ∷ added_at item more place cells

-- all rows as a group, whose key has no values
abbrev pub group_of_all : List Item → List KeyedRow → Group
group_of_all items rows = record { key = []; cells = map (aggregate rows) items }
