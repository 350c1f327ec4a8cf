-- Whether an UPDATE or DELETE may write or skip a row, as tests.
use Rattle.std.specs.Prelude.{Bool, true, false, not, ◌&&◌, List, Some, None, Ok, Err, Result}
use Rattle.std.specs.declared.option.Option.{Option}
use Rattle.gx_ids.specs.declared.ids.Gxid.{Gxid}
use Rattle.gx_ids.specs.declared.ids.Cid.{Cid}
use Rattle.gx_ids.specs.declared.ids.Table.{Table}
use Rattle.gx_ids.specs.declared.rid.Rid.{Rid}
use Rattle.gx_tree.specs.declared.cond.Cond.{Cond}
use Rattle.gx_tree.specs.declared.stmt.Assign.{Assign}
use Rattle.gx_tree.specs.declared.stmt.Level.{Level}
use Rattle.gx_tree.specs.declared.stmt.Level.TheVariants.{ReadCommitted, RepeatableRead}
use Rattle.gx_tree.specs.declared.stmt.Stmt.{Stmt}
use Rattle.gx_tree.specs.declared.stmt.Stmt.TheVariants.{Update, Delete}
use Rattle.gx_tree.specs.declared.value.Value.{Value}
use Rattle.gx_meaning.specs.declared.fault.ArithFault.{ArithFault}
use Rattle.gx_store.specs.declared.mark.Mark.{Mark}
use Rattle.gx_store.specs.Commands.{condition_on}
use Rattle.gx_store.specs.Marks.{is_committed, is_processed, is_same_gxid}
use Rattle.gx_store.specs.Writes.{Written, set_row}
use Rattle.gx_legal.specs.Images.{is_same_image}
use Rattle.gx_legal.specs.Selected.{free_write, is_changeable, is_missed, is_selected, is_unseen}

abbrev pub is_read_committed : Level → Bool
is_read_committed ReadCommitted = true
is_read_committed RepeatableRead = false

-- the row is gone, or the condition is false on its current image
abbrev pub is_left : Option Cond → Option (List Value) → Bool
is_left cond None = true
is_left cond (Some old) = is_missed (condition_on cond old)

abbrev pub is_left_write : Option Cond → Option Written → Bool
is_left_write cond None = false
is_left_write cond (Some write) = is_left cond write.image

abbrev pub is_skipped : List Mark → Level → Gxid → Cid → Table → Option Cond → Rid → Bool
is_skipped marks level g c table cond rid =
    is_read_committed level && (is_left_write cond (free_write marks g rid) && is_selected marks level g c table cond rid)

abbrev pub is_skip : List Mark → Level → Gxid → Cid → Stmt → Rid → Bool
is_skip marks level g c (Update table assigns cond) rid = not (is_processed marks g c rid) && is_skipped marks level g c table cond rid
is_skip marks level g c (Delete table cond) rid = not (is_processed marks g c rid) && is_skipped marks level g c table cond rid
is_skip marks level g c _ rid = false

-- OVERTAKEN
abbrev pub is_overtaken_by : List Mark → Level → Gxid → Cid → Table → Option Cond → Rid → Gxid → Option Written → Bool
is_overtaken_by marks level g c table cond rid h None = false
is_overtaken_by marks level g c table cond rid h (Some write) = is_same_gxid write.gxid h && (is_committed marks h && is_unseen marks level g c table cond rid h)

abbrev pub is_overtaken : List Mark → Level → Gxid → Cid → Table → Option Cond → Rid → Gxid → Bool
is_overtaken marks level g c table cond rid h = is_overtaken_by marks level g c table cond rid h (free_write marks g rid)

-- UPDATE AND DELETE
-- the row may be changed from its current image, of which the test holds
abbrev pub is_changed_image : List Mark → Level → Gxid → Cid → Table → Option Cond → Rid → (List Value → Bool) → Written → Option (List Value) → Bool
is_changed_image marks level g c table cond rid test write None = false
is_changed_image marks level g c table cond rid test write (Some old) = test old && is_changeable marks level g c table cond rid write old

abbrev pub is_changed_write : List Mark → Level → Gxid → Cid → Table → Option Cond → Rid → (List Value → Bool) → Option Written → Bool
is_changed_write marks level g c table cond rid test None = false
is_changed_write marks level g c table cond rid test (Some write) = is_changed_image marks level g c table cond rid test write write.image

abbrev pub is_changed : List Mark → Level → Gxid → Cid → Table → Option Cond → Rid → (List Value → Bool) → Bool
is_changed marks level g c table cond rid test = is_changed_write marks level g c table cond rid test (free_write marks g rid)

-- the image is what a SET list gives
abbrev pub is_set_to : Result (List Value) ArithFault → Option (List Value) → Bool
is_set_to (Ok new) image = is_same_image image (Some new)
is_set_to (Err fault) image = false

abbrev pub is_set : List Assign → Option (List Value) → List Value → Bool
is_set assigns image old = is_set_to (set_row assigns old) image

abbrev pub is_gone : Option (List Value) → List Value → Bool
is_gone None old = true
is_gone (Some row) old = false
