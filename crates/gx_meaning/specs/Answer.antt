-- What a query answers on one list of rows in the order of their identities, and its part at a segment.
use Rattle.std.specs.Prelude.{◌≡◌, ◌==◌, All, ℕ, Bool, true, false, if◌then◌else◌, List, [], map, filter, take, slice_get, Option, Some, None, Result, Ok, Err}
use Rattle.std.specs.List.{flat_map, range_with_len}
use Rattle.std.specs.List.Sorted.{IsPermutation, IsStrictlySortedBy}
use Rattle.gx_meaning.specs.Expressions.{truth_of}
use Rattle.gx_tree.specs.declared.cell.Cell.{Cell}
use Rattle.gx_tree.specs.declared.cell.Cell.TheVariants as cell
use Rattle.gx_tree.specs.declared.cond.Cond.{Cond}
use Rattle.gx_tree.specs.declared.part.Group.{Group}
use Rattle.gx_tree.specs.declared.part.Part.{Part}
use Rattle.gx_tree.specs.declared.part.Part.TheVariants.{Rows, Groups}
use Rattle.gx_tree.specs.declared.query.Item.{Item}
use Rattle.gx_tree.specs.declared.query.Item.TheVariants.{Col}
use Rattle.gx_tree.specs.declared.query.Key.{Key}
use Rattle.gx_tree.specs.declared.query.Query.{Query}
use Rattle.gx_tree.specs.declared.row.KeyedRow.{KeyedRow}
use Rattle.gx_tree.specs.declared.value.Value.{Value}
use Rattle.gx_meaning.specs.declared.sort_key.SortKey.{SortKey}
use Rattle.gx_meaning.specs.Aggregates.{aggregate, cell_at}
use Rattle.gx_meaning.specs.Groups.{group_cell, keys_of, members, place_of}
use Rattle.gx_meaning.specs.Order.{group_order, in_order, rid_order, rising, row_order}

-- the condition, if there is one, is true on the row
abbrev pub keeps : Option Cond → KeyedRow → Bool
keeps None row = true
keeps (Some cond) row = is_true (truth_of row.row cond)
  where
    is_true : {F : Type 0} → Result Bool F → Bool
    is_true (Ok truth) = truth
    is_true (Err fault) = false

-- the first rows, up to the limit
abbrev pub limited : {X : Type 0} → Option ℕ → List X → List X
limited None rows = rows
limited (Some limit) rows = take limit rows

-- what an item gives for a row: a column's value
abbrev pub row_cell : KeyedRow → Item → Cell
row_cell row (Col column) = cell_at (slice_get row.row column)
row_cell row _ = cell.Null

-- ORDER BY as places in rows, and as places in the keys of groups
abbrev pub row_keys : List Key → List SortKey
row_keys order = map (λ key. record { place = key.col; desc = key.desc }) order

abbrev pub group_keys : List ℕ → List Key → List SortKey
group_keys group order = map (λ key. record { place = place_of group key.col; desc = key.desc }) order

-- each row's items, in the order of ORDER BY and then by identity
abbrev pub plain_answer : Query → List KeyedRow → List (List Cell)
plain_answer query rows = map (λ row. map (row_cell row) query.items) (in_order (row_order (row_keys query.order)) rows)

-- each group's items, in the order of ORDER BY and then by the GROUP BY columns
abbrev pub grouped_answer : Query → List KeyedRow → List (List Cell)
grouped_answer query rows =
    map (λ key. map (group_cell query.group rows key) query.items) (in_order (group_order (group_keys query.group query.order)) (keys_of query.group rows))

-- what a query answers on rows in the order of their identities
abbrev pub answer_of : Query → List KeyedRow → List (List Cell)
answer_of query rows =
    let kept = filter (keeps query.cond) rows in
    limited query.limit (if query.grouped then grouped_answer query kept else plain_answer query kept)

-- a group at a segment: its aggregates, one cell an item
abbrev pub group_of : Query → List KeyedRow → List Value → Group
group_of query rows key = record { key = key; cells = map (aggregate (members query.group rows key)) query.items }

-- a segment's part: its rows, or its groups, rising by their keys
abbrev pub part_of : Query → List KeyedRow → Part
part_of query rows =
    if query.grouped then Groups (map (group_of query rows) (in_order rising (keys_of query.group rows))) else Rows rows

-- the rows rise by their identities
abbrev pub AreRising : List KeyedRow → Type 0
AreRising rows = IsStrictlySortedBy rid_order (map (λ row. row.rid) rows)

-- the rows that a part has, and its groups
abbrev pub rows_in : Part → List KeyedRow
rows_in (Rows rows) = rows
rows_in (Groups groups) = []

abbrev pub groups_in : Part → List Group
groups_in (Rows rows) = []
groups_in (Groups groups) = groups

-- lists put together
abbrev pub together : {X : Type 0} → List (List X) → List X
together lists = flat_map (λ list. list) lists

-- the rows of each of n owners, which are numbered from 0
abbrev pub dealt_by : (KeyedRow → ℕ) → ℕ → List KeyedRow → List (List KeyedRow)
dealt_by owner n rows = map (λ number. filter (λ row. owner row == number) rows) (range_with_len 0 n)

-- The parts are those of a division of the whole: of lists which together are the whole in another order, and the whole
-- rises by its identities and keeps the condition.
pub record ArePartsOf (query : Query) (whole : List KeyedRow) (parts : List Part) : Type 0 where
  pub dealt : List (List KeyedRow)
  pub division : IsPermutation whole (together dealt)
  pub each : parts ≡ map (part_of query) dealt
  pub rising : AreRising whole
  pub kept : All (λ row. keeps query.cond row ≡ true) whole
