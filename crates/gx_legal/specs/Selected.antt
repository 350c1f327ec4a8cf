-- Which rows a command has selected, as tests.
use Rattle.std.specs.Prelude.{ℕ, ◌==◌, Bool, false, not, if◌then◌else◌, ◌&&◌, List, take, Some, None, Ok, Err, Result}
use Rattle.std.specs.List.{list_any}
use Rattle.std.specs.declared.option.Option.{Option}
use Rattle.gx_ids.specs.declared.ids.Gxid.{Gxid}
use Rattle.gx_ids.specs.declared.ids.Cid.{Cid}
use Rattle.gx_ids.specs.declared.ids.Table.{Table}
use Rattle.gx_ids.specs.declared.rid.Rid.{Rid}
use Rattle.gx_tree.specs.declared.cond.Cond.{Cond}
use Rattle.gx_tree.specs.declared.stmt.Level.{Level}
use Rattle.gx_tree.specs.declared.stmt.Level.TheVariants.{ReadCommitted, RepeatableRead}
use Rattle.gx_tree.specs.declared.value.Value.{Value}
use Rattle.gx_meaning.specs.declared.fault.ArithFault.{ArithFault}
use Rattle.gx_store.specs.declared.mark.Mark.{Mark}
use Rattle.gx_store.specs.Commands.{condition_on}
use Rattle.gx_store.specs.Marks.{is_committed, is_same_gxid}
use Rattle.gx_store.specs.View.{image}
use Rattle.gx_store.specs.Writes.{Written, current, is_free_for, shown_write}
use Rattle.gx_legal.specs.Images.{is_same_image}
use Rattle.gx_legal.specs.Places.{snapshots}

-- the condition is true, and it is false
abbrev pub is_met : Result Bool ArithFault → Bool
is_met (Ok truth) = truth
is_met (Err fault) = false

abbrev pub is_missed : Result Bool ArithFault → Bool
is_missed (Ok truth) = not truth
is_missed (Err fault) = false

-- the condition is true on a row that is there
abbrev pub is_chosen : Option Cond → Option (List Value) → Bool
is_chosen cond None = false
is_chosen cond (Some row) = is_met (condition_on cond row)

-- the row's image for the command, by a snapshot at this place
abbrev pub image_at : List Mark → Gxid → Cid → Table → Rid → ℕ → Option (List Value)
image_at marks g c table rid place = image marks (take place marks) (Some (g, c)) table rid

-- by that snapshot, the command has selected the row
abbrev pub is_chosen_at : List Mark → Gxid → Cid → Table → Option Cond → Rid → ℕ → Bool
is_chosen_at marks g c table cond rid place = is_chosen cond (image_at marks g c table rid place)

abbrev pub is_selected : List Mark → Level → Gxid → Cid → Table → Option Cond → Rid → Bool
is_selected marks level g c table cond rid = list_any (is_chosen_at marks g c table cond rid) (snapshots marks level g c)

-- the row's current write, where it is free for the transaction
abbrev pub if_free : List Mark → Gxid → Option Written → Option Written
if_free marks g None = None
if_free marks g (Some write) = if is_free_for marks g write then Some write else None

abbrev pub free_write : List Mark → Gxid → Rid → Option Written
free_write marks g rid = if_free marks g (current marks rid)

abbrev pub is_same_write : Written → Written → Bool
is_same_write a b = (a.place == b.place) && (is_same_gxid a.gxid b.gxid && ((a.cid.0 == b.cid.0) && is_same_image a.image b.image))

abbrev pub is_write : Option Written → Written → Bool
is_write None write = false
is_write (Some shown) write = is_same_write shown write

-- at read committed the condition is true on the current image too, at repeatable read the command is shown this very write
abbrev pub is_current_at : List Mark → Level → Gxid → Cid → Option Cond → Rid → Written → List Value → ℕ → Bool
is_current_at marks ReadCommitted g c cond rid write old place = is_met (condition_on cond old)
is_current_at marks RepeatableRead g c cond rid write old place = is_write (shown_write marks (take place marks) g c rid) write

-- by the snapshot at this place, the command has selected the row, and may change it from this current write and its image
abbrev pub is_changeable_at : List Mark → Level → Gxid → Cid → Table → Option Cond → Rid → Written → List Value → ℕ → Bool
is_changeable_at marks level g c table cond rid write old place = is_chosen_at marks g c table cond rid place && is_current_at marks level g c cond rid write old place

-- a selected row may be changed from this current write and its image
abbrev pub is_changeable : List Mark → Level → Gxid → Cid → Table → Option Cond → Rid → Written → List Value → Bool
is_changeable marks level g c table cond rid write old =
    list_any (is_changeable_at marks level g c table cond rid write old) (snapshots marks level g c)

-- by the snapshot at this place, the command has selected the row, and doesn't see that the transaction has committed
abbrev pub is_unseen_at : List Mark → Gxid → Cid → Table → Option Cond → Rid → Gxid → ℕ → Bool
is_unseen_at marks g c table cond rid h place = is_chosen_at marks g c table cond rid place && not (is_committed (take place marks) h)

abbrev pub is_unseen : List Mark → Level → Gxid → Cid → Table → Option Cond → Rid → Gxid → Bool
is_unseen marks level g c table cond rid h = list_any (is_unseen_at marks g c table cond rid h) (snapshots marks level g c)
