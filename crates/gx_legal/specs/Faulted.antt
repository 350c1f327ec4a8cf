-- Whether an evaluation of a command gives a fault, as tests.
use Rattle.std.specs.Prelude.{ℕ, ◌-◌, Bool, true, false, not, ◌&&◌, ◌||◌, List, [], take, slice_get, Some, None, Ok, Err, Result}
use Rattle.std.specs.List.{list_all, list_any}
use Rattle.std.specs.declared.option.Option.{Option}
use Rattle.gx_ids.specs.declared.ids.Gxid.{Gxid}
use Rattle.gx_ids.specs.declared.ids.Cid.{Cid}
use Rattle.gx_ids.specs.declared.ids.Table.{Table}
use Rattle.gx_ids.specs.declared.rid.Rid.{Rid}
use Rattle.gx_tree.specs.declared.cond.Cond.{Cond}
use Rattle.gx_tree.specs.declared.expr.Expr.{Expr}
use Rattle.gx_tree.specs.declared.stmt.Assign.{Assign}
use Rattle.gx_tree.specs.declared.stmt.Level.{Level}
use Rattle.gx_tree.specs.declared.stmt.Stmt.{Stmt}
use Rattle.gx_tree.specs.declared.stmt.Stmt.TheVariants.{Select, Insert, Update, Delete}
use Rattle.gx_tree.specs.declared.value.Value.{Value}
use Rattle.gx_meaning.specs.Constants.{values_of}
use Rattle.gx_meaning.specs.declared.fault.ArithFault.{ArithFault}
use Rattle.gx_meaning.specs.declared.fault.ArithFault.TheVariants.{Overflow, DivisionByZero}
use Rattle.gx_store.specs.declared.mark.Mark.{Mark}
use Rattle.gx_store.specs.Commands.{condition_on}
use Rattle.gx_store.specs.Marks.{is_sent}
use Rattle.gx_store.specs.Writes.{Written, set_row}
use Rattle.gx_legal.specs.Changed.{is_changed, is_gone, is_read_committed}
use Rattle.gx_legal.specs.Images.{is_same_image}
use Rattle.gx_legal.specs.Inserted.{is_own}
use Rattle.gx_legal.specs.Places.{snapshots}
use Rattle.gx_legal.specs.Selected.{free_write, image_at, is_selected}

abbrev pub is_same_fault : ArithFault → ArithFault → Bool
is_same_fault Overflow Overflow = true
is_same_fault DivisionByZero DivisionByZero = true
is_same_fault Overflow DivisionByZero = false
is_same_fault DivisionByZero Overflow = false

abbrev pub is_fault : {A : Type 0} → Result A ArithFault → ArithFault → Bool
is_fault (Ok value) fault = false
is_fault (Err given) fault = is_same_fault given fault

-- the condition faults on the image that is meant
abbrev pub is_image_fault : Option Cond → Option (List Value) → ArithFault → Option (List Value) → Bool
is_image_fault cond meant fault None = false
is_image_fault cond meant fault (Some row) = is_same_image meant (Some row) && is_fault (condition_on cond row) fault

-- it faults so on what the command sees of the row by the snapshot at this place
abbrev pub is_seen_fault_at : List Mark → Gxid → Cid → Table → Option Cond → Rid → Option (List Value) → ArithFault → ℕ → Bool
is_seen_fault_at marks g c table cond rid meant fault place = is_image_fault cond meant fault (image_at marks g c table rid place)

abbrev pub is_seen_fault : List Mark → Level → Gxid → Cid → Table → Option Cond → Rid → Option (List Value) → ArithFault → Bool
is_seen_fault marks level g c table cond rid meant fault =
    list_any (is_seen_fault_at marks g c table cond rid meant fault) (snapshots marks level g c)

abbrev pub is_write_fault : Option Cond → Option (List Value) → ArithFault → Option Written → Bool
is_write_fault cond meant fault None = false
is_write_fault cond meant fault (Some write) = is_image_fault cond meant fault write.image

abbrev pub is_current_fault : List Mark → Level → Gxid → Cid → Table → Option Cond → Rid → Option (List Value) → ArithFault → Bool
is_current_fault marks level g c table cond rid meant fault =
    is_read_committed level && (is_write_fault cond meant fault (free_write marks g rid) && is_selected marks level g c table cond rid)

-- the SET list faults on the image that is meant
abbrev pub is_set_fault : List Assign → Option (List Value) → ArithFault → List Value → Bool
is_set_fault assigns meant fault old = is_same_image meant (Some old) && is_fault (set_row assigns old) fault

abbrev pub is_tuple_fault : ArithFault → Option (List Expr) → Bool
is_tuple_fault fault None = false
is_tuple_fault fault (Some tuple) = is_fault (values_of tuple) fault

abbrev pub is_whole : {A : Type 0} → Result A ArithFault → Bool
is_whole (Ok value) = true
is_whole (Err fault) = false

abbrev pub are_whole : List (List Expr) → Bool
are_whole tuples = list_all (λ tuple. is_whole (values_of tuple)) tuples

abbrev pub is_constant_fault : List Mark → Gxid → Cid → List (List Expr) → Rid → Option (List Value) → ArithFault → Bool
is_constant_fault marks g c tuples rid meant fault =
    is_own g c rid && (is_gone meant [] && (not (is_sent marks g c) && (is_tuple_fault fault (slice_get tuples (rid.ordinal - 1)) && are_whole (take (rid.ordinal - 1) tuples))))

abbrev pub is_stmt_fault : List Mark → Level → Gxid → Cid → Stmt → Rid → Option (List Value) → ArithFault → Bool
is_stmt_fault marks level g c (Select query) rid meant fault = is_seen_fault marks level g c query.table query.cond rid meant fault
is_stmt_fault marks level g c (Insert table tuples) rid meant fault = is_constant_fault marks g c tuples rid meant fault
is_stmt_fault marks level g c (Update table assigns cond) rid meant fault =
    is_seen_fault marks level g c table cond rid meant fault
    || (is_current_fault marks level g c table cond rid meant fault || is_changed marks level g c table cond rid (is_set_fault assigns meant fault))
is_stmt_fault marks level g c (Delete table cond) rid meant fault =
    is_seen_fault marks level g c table cond rid meant fault || is_current_fault marks level g c table cond rid meant fault
is_stmt_fault marks level g c _ rid meant fault = false
