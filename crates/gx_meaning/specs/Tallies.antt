-- What a map of groups has at a key.
use Rattle.std.specs.Prelude.{ℕ, Bool, false, ◌||◌, map, slice_get, List, [], ◌∷◌, if◌then◌else◌, Option, Some, None}
use Rattle.std.specs.List.{list_any, zip}
use Rattle.gx_tree.specs.declared.cell.Cell.{Cell}
use Rattle.gx_tree.specs.declared.part.Group.{Group}
use Rattle.gx_tree.specs.declared.query.Item.{Item}
use Rattle.gx_tree.specs.declared.query.Query.{Query}
use Rattle.gx_tree.specs.declared.query.Item.TheVariants.{Col}
use Rattle.gx_tree.specs.declared.row.KeyedRow.{KeyedRow}
use Rattle.gx_tree.specs.declared.value.Value.{Value}
use Rattle.gx_meaning.specs.Cells.{combine_all}
use Rattle.gx_meaning.specs.Aggregates.{aggregate, cell_at}
use Rattle.gx_meaning.specs.Groups.{is_same_key, key_of, members, place_of}

-- without GROUP BY there is one group, whatever the rows
abbrev pub is_only : List ℕ → List Value → Bool
is_only [] key = is_same_key key []
is_only (column ∷ columns) key = false

-- whether a group has the key
abbrev pub has_group : List ℕ → List KeyedRow → List Value → Bool
has_group group rows key = is_only group key || list_any (λ row. is_same_key key (key_of group row)) rows

-- the aggregates of the group at a key, if there is one
abbrev pub total_at : Query → List KeyedRow → List Value → Option (List Cell)
total_at query rows key =
    if has_group query.group rows key then Some (map (aggregate (members query.group rows key)) query.items) else None

-- the aggregates of a group with those of another list of rows, if it has any
abbrev pub joined : List Item → Option (List Cell) → List Cell → Option (List Cell)
joined items None more = Some more
joined items (Some cells) more = Some (combine_all items cells more)

-- what stands at a key when the groups have been added to what stood there
abbrev pub tally : List Item → List Value → Option (List Cell) → List Group → Option (List Cell)
tally items key cells [] = cells
tally items key cells (group ∷ groups) =
    tally items key (if is_same_key key group.key then joined items cells group.cells else cells) groups

-- what a group answers, from its key and its aggregates
abbrev pub out_cell : List ℕ → List Value → Item → Cell → Cell
out_cell group key (Col column) cell = cell_at (slice_get key (place_of group column))
out_cell group key item cell = cell

abbrev pub out_row : Query → Group → List Cell
out_row query group = map (λ p. out_cell query.group group.key p.0 p.1) (zip query.items group.cells)

abbrev pub entry_group : List Value × List Cell → Group
entry_group entry = record { key = entry.0; cells = entry.1 }

-- a row as a group of its own
abbrev pub row_group : Query → KeyedRow → Group
row_group query row = record { key = key_of query.group row; cells = map (aggregate (row ∷ [])) query.items }
