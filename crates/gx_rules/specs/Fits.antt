-- Which messages fit. Nodes test this themselves, since a link tells nothing of what it carries.
use Rattle.std.specs.Prelude.{ℕ, ◌==◌, nat_lt, nat_le, Bool, true, false, not, ◌&&◌, ◌||◌, is_some, List, [], ◌∷◌, length, map, slice_get, Some, None}
use Rattle.std.specs.declared.option.Option.{Option}
use Rattle.std.specs.List.{list_all, list_any}
use Rattle.gx_ids.specs.declared.ids.Cid.{Cid}
use Rattle.gx_ids.specs.declared.ids.Gxid.{Gxid}
use Rattle.gx_ids.specs.declared.rid.Rid.{Rid}
use Rattle.gx_tree.specs.declared.cond.Cond.{Cond}
use Rattle.gx_tree.specs.declared.part.Group.{Group}
use Rattle.gx_tree.specs.declared.part.Part.{Part}
use Rattle.gx_tree.specs.declared.part.Part.TheVariants.{Groups, Rows}
use Rattle.gx_tree.specs.declared.query.Item.{Item}
use Rattle.gx_tree.specs.declared.query.Item.TheVariants.{Col, Count, Sum, Min, Max}
use Rattle.gx_tree.specs.declared.query.Query.{Query}
use Rattle.gx_tree.specs.declared.schema.Kind.{Kind}
use Rattle.gx_tree.specs.declared.schema.Kind.TheVariants.{Int, Text}
use Rattle.gx_tree.specs.declared.schema.Schema.{Schema}
use Rattle.gx_tree.specs.declared.slice.Slice.{Slice}
use Rattle.gx_tree.specs.declared.slice.Slice.TheVariants as slice
use Rattle.gx_tree.specs.declared.stmt.Assign.{Assign}
use Rattle.gx_tree.specs.declared.stmt.Stmt.{Stmt}
use Rattle.gx_tree.specs.declared.stmt.Stmt.TheVariants as stmt
use Rattle.gx_tree.specs.declared.value.Value.{Value}
use Rattle.gx_dsnap.specs.declared.snapshot.Snapshot.{Snapshot}
use Rattle.gx_meaning.specs.Kinds.{is_typed, kind_of, value_kind}
use Rattle.gx_script.specs.declared.Script.{Script}
use Rattle.gx_rules.specs.Maps.{each_below}
use Rattle.gx_rules.specs.Segments.{Local, Seg, has_ended}

-- SLICES THAT ARE RIGHT FOR THE SCRIPT
abbrev pub kinds_in : Schema → List Kind
kinds_in schema = map (λ column. column.kind) schema.columns

abbrev pub is_same_kind : Kind → Kind → Bool
is_same_kind Int Int = true
is_same_kind Text Text = true
is_same_kind _ _ = false

abbrev pub is_kind : Kind → Option Kind → Bool
is_kind kind None = false
is_kind kind (Some other) = is_same_kind kind other

-- a condition, where there is one, compares what can be compared
abbrev pub is_right_cond : List Kind → Option Cond → Bool
is_right_cond kinds None = true
is_right_cond kinds (Some cond) = is_typed kinds cond

abbrev pub is_aggregate : Item → Bool
is_aggregate (Col column) = false
is_aggregate _ = true

abbrev pub is_among : ℕ → List ℕ → Bool
is_among column columns = list_any (λ other. other == column) columns

-- an item names a column, which is one of GROUP BY's where the query groups; SUM is over numbers
abbrev pub is_right_item : List Kind → Query → Item → Bool
is_right_item kinds query (Col column) = is_some (slice_get kinds column) && (not query.grouped || is_among column query.group)
is_right_item kinds query Count = true
is_right_item kinds query (Sum column) = is_kind Int (slice_get kinds column)
is_right_item kinds query (Min column) = is_some (slice_get kinds column)
is_right_item kinds query (Max column) = is_some (slice_get kinds column)

abbrev pub is_right_key : List Kind → Query → ℕ → Bool
is_right_key kinds query column = is_some (slice_get kinds column) && (not query.grouped || is_among column query.group)

-- a query groups where an aggregate or GROUP BY stands
abbrev pub is_grouping : Query → Bool
is_grouping query = list_any is_aggregate query.items || not (length query.group == 0)

abbrev pub is_same_truth : Bool → Bool → Bool
is_same_truth true b = b
is_same_truth false b = not b

abbrev pub is_right_query : List Kind → Query → Bool
is_right_query kinds query =
    is_right_cond kinds query.cond
    && (is_same_truth query.grouped (is_grouping query)
    && (list_all (is_right_item kinds query) query.items
    && (list_all (λ column. is_some (slice_get kinds column)) query.group && list_all (λ key. is_right_key kinds query key.col) query.order)))

-- a row has a value of each column's kind
abbrev pub is_right_row : List Kind → List Value → Bool
is_right_row [] [] = true
is_right_row (kind ∷ kinds) (value ∷ values) = is_same_kind kind (value_kind value) && is_right_row kinds values
is_right_row _ _ = false

-- a row's identity is of this command
abbrev pub is_rid_of : Gxid → Cid → Rid → Bool
is_rid_of g c rid = (rid.gxid.0 == g.0) && (rid.cid.0 == c.0)

-- a value is of its column's kind
abbrev pub is_right_kind : Option Kind → Option Kind → Bool
is_right_kind None found = false
is_right_kind (Some kind) found = is_kind kind found

abbrev pub is_right_assign : List Kind → Assign → Bool
is_right_assign kinds assign = is_right_kind (slice_get kinds assign.col) (kind_of kinds assign.expr)

abbrev pub is_right_on : Gxid → Cid → Option Schema → Slice → Bool
is_right_on g c None slice = false
is_right_on g c (Some schema) (slice.Select query) = is_right_query (kinds_in schema) query
is_right_on g c (Some schema) (slice.Insert table rows) = list_all (λ row. is_rid_of g c row.rid && is_right_row (kinds_in schema) row.row) rows
is_right_on g c (Some schema) (slice.Update table assigns cond) =
    list_all (is_right_assign (kinds_in schema)) assigns && is_right_cond (kinds_in schema) cond
is_right_on g c (Some schema) (slice.Delete table cond) = is_right_cond (kinds_in schema) cond
is_right_on g c (Some schema) (slice.Lock table mode) = true

abbrev pub table_of : Slice → ℕ
table_of (slice.Select query) = query.table.0
table_of (slice.Insert table rows) = table.0
table_of (slice.Update table assigns cond) = table.0
table_of (slice.Delete table cond) = table.0
table_of (slice.Lock table mode) = table.0

-- the slice is one of the script's tables, and right for it
abbrev pub is_right_slice : Script → Gxid → Cid → Slice → Bool
is_right_slice script g c slice = is_right_on g c (slice_get script.tables (table_of slice)) slice

-- AT A SEGMENT
-- a transaction holds locks at a segment, or waits for one, from its first command there until it has ended there
abbrev pub holds_locks : Local → Bool
holds_locks l = nat_lt 0 l.last && not (has_ended l.phase)

-- a slice of it waits there
abbrev pub is_waiting : Local → Bool
is_waiting l = is_some l.suspended

-- only LOCK TABLE reads nothing
abbrev pub reads_nothing : Slice → Bool
reads_nothing (slice.Lock table mode) = true
reads_nothing _ = false

-- An EXEC fits where its horizon is at most its gxid and at most each gxid that holds or waits there, it has a snapshot unless it
-- reads nothing, and its slice is right for the script. A new command fits only where no slice of its transaction waits.
abbrev pub fits_exec : Script → Seg → Gxid → Cid → Option Snapshot → Gxid → Slice → Bool
fits_exec script s g c snapshot horizon slice =
    nat_le horizon.0 g.0
    && (each_below horizon.0 (λ h. not (holds_locks (s.locals h)))
    && ((is_some snapshot || reads_nothing slice) && (is_right_slice script g c slice && not (nat_lt (s.locals g.0).last c.0 && is_waiting (s.locals g.0)))))

-- AT THE COORDINATOR
-- a part has the form that a segment's part of a query has
abbrev pub fits_group : Query → Group → Bool
fits_group query group = (length group.key == length query.group) && (length group.cells == length query.items)

abbrev pub fits_query : Query → Part → Bool
fits_query query (Rows rows) = not query.grouped
fits_query query (Groups groups) = query.grouped && list_all (fits_group query) groups

abbrev pub is_no_rows : Part → Bool
is_no_rows (Rows []) = true
is_no_rows _ = false

abbrev pub fits_part : Stmt → Part → Bool
fits_part (stmt.Select query) part = fits_query query part
fits_part _ part = is_no_rows part
