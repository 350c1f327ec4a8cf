-- Whether a late write is of the statement's own table and row, as tests.
use Rattle.std.specs.Prelude.{◌==◌, Bool, false, ◌&&◌, List, Some, None}
use Rattle.std.specs.declared.option.Option.{Option}
use Rattle.gx_ids.specs.declared.ids.Gxid.{Gxid}
use Rattle.gx_ids.specs.declared.ids.Cid.{Cid}
use Rattle.gx_ids.specs.declared.ids.Node.{Node}
use Rattle.gx_ids.specs.declared.ids.Table.{Table}
use Rattle.gx_ids.specs.declared.rid.Rid.{Rid}
use Rattle.gx_tree.specs.declared.stmt.Stmt.{Stmt}
use Rattle.gx_tree.specs.declared.stmt.Stmt.TheVariants.{Insert, Update, Delete}
use Rattle.gx_tree.specs.declared.value.Value.{Value}
use Rattle.gx_script.specs.declared.Script.{Script}
use Rattle.gx_store.specs.declared.mark.Mark.{Mark}
use Rattle.gx_store.specs.Marks.{node_of, row_table}
use Rattle.gx_legal.specs.Inserted.{is_inserted}

abbrev pub is_written_at : Option Node → Node → Bool
is_written_at None node = false
is_written_at (Some first) node = first.0 == node.0

abbrev pub is_written_in : Option Table → Table → Bool
is_written_in None table = false
is_written_in (Some first) table = first.0 == table.0

-- the row stands at the node, in the statement's table
abbrev pub stands_in : List Mark → Table → Node → Table → Rid → Bool
stands_in marks table node t rid = (table.0 == t.0) && (is_written_at (node_of marks rid) node && is_written_in (row_table marks rid) table)

abbrev pub is_late : Script → List Mark → Gxid → Cid → Stmt → Node → Table → Rid → Option (List Value) → Bool
is_late script marks g c (Insert table tuples) node t rid image = (table.0 == t.0) && is_inserted script marks g c table tuples node rid image
is_late script marks g c (Update table assigns cond) node t rid image = stands_in marks table node t rid
is_late script marks g c (Delete table cond) node t rid image = stands_in marks table node t rid
is_late script marks g c _ node t rid image = false
