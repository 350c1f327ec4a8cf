-- Whether a statement may write an image of a row, as tests.
use Rattle.std.specs.Prelude.{◌==◌, Bool, false, not, ◌&&◌, List}
use Rattle.std.specs.declared.option.Option.{Option}
use Rattle.gx_ids.specs.declared.ids.Gxid.{Gxid}
use Rattle.gx_ids.specs.declared.ids.Cid.{Cid}
use Rattle.gx_ids.specs.declared.ids.Node.{Node}
use Rattle.gx_ids.specs.declared.ids.Table.{Table}
use Rattle.gx_ids.specs.declared.rid.Rid.{Rid}
use Rattle.gx_tree.specs.declared.stmt.Level.{Level}
use Rattle.gx_tree.specs.declared.stmt.Stmt.{Stmt}
use Rattle.gx_tree.specs.declared.stmt.Stmt.TheVariants.{Insert, Update, Delete}
use Rattle.gx_tree.specs.declared.value.Value.{Value}
use Rattle.gx_script.specs.declared.Script.{Script}
use Rattle.gx_store.specs.declared.mark.Mark.{Mark}
use Rattle.gx_store.specs.Marks.{is_processed, node_of}
use Rattle.gx_legal.specs.Changed.{is_changed, is_gone, is_set}
use Rattle.gx_legal.specs.Inserted.{is_inserted}
use Rattle.gx_legal.specs.Late.{is_written_at}

-- the row stands there, and the command has neither written nor skipped it
abbrev pub is_next : List Mark → Gxid → Cid → Table → Node → Table → Rid → Bool
is_next marks g c table node t rid = (table.0 == t.0) && (is_written_at (node_of marks rid) node && not (is_processed marks g c rid))

abbrev pub is_write : Script → List Mark → Level → Gxid → Cid → Stmt → Node → Table → Rid → Option (List Value) → Bool
is_write script marks level g c (Insert table tuples) node t rid image = (table.0 == t.0) && is_inserted script marks g c table tuples node rid image
is_write script marks level g c (Update table assigns cond) node t rid image = is_next marks g c table node t rid && is_changed marks level g c table cond rid (is_set assigns image)
is_write script marks level g c (Delete table cond) node t rid image = is_next marks g c table node t rid && is_changed marks level g c table cond rid (is_gone image)
is_write script marks level g c _ node t rid image = false
