-- Commands go out with their table's lock.
use Rattle.std.specs.Prelude.{◌≡◌, true, false, List, [], ◌∷◌}
use Rattle.gx_ids.specs.declared.ids.Gxid.{Gxid}
use Rattle.gx_tree.specs.declared.slice.Slice.{Slice}
use Rattle.gx_waits.specs.declared.claim.Claim.{Claim}
use Rattle.gx_script.specs.declared.Script.{Script}
use Rattle.gx_msg.specs.declared.message.Message.{Message}
use Rattle.gx_msg.specs.declared.message.Message.TheVariants as message
use Rattle.gx_store.specs.declared.mark.Mark.{Mark}
use Rattle.gx_store.specs.Marks.{is_ended}
use Rattle.gx_store.specs.Points.{marks_in}
use Rattle.gx_store.specs.Refusals.{the_coordinator}
use Rattle.gx_store.specs.Waits.{is_held}
use Rattle.gx_rules.specs.Machine.{Letter, World}
use Rattle.gx_store.specs.Locks.{slice_lock}

-- at the coordinator the transaction holds what the slice asks for at its segment
abbrev pub HoldsHere : List Mark → Claim → Type 0
HoldsHere marks wanted = is_held marks the_coordinator wanted.gxid wanted.object wanted.mode ≡ true

abbrev pub HoldsFor : Script → List Mark → Gxid → Slice → Type 0
HoldsFor script marks g slice = HoldsHere marks (slice_lock script g slice)

-- until the transaction ends
abbrev pub IsLockedOrder : Script → List Mark → Message → Type 0
IsLockedOrder script marks (message.Exec g c level snapshot horizon slice) = is_ended marks g ≡ false → HoldsFor script marks g slice
IsLockedOrder script marks _ = Unit {0}

abbrev pub AreLockedOrders : Script → List Mark → List Letter → Type 0
AreLockedOrders script marks [] = Unit {0}
AreLockedOrders script marks (l ∷ ls) = (l.from ≡ the_coordinator → IsLockedOrder script marks l.envelope.message) × AreLockedOrders script marks ls

-- each EXEC that the coordinator ever sent is so
abbrev pub AreOrdersLocked : Script → World → Type 0
AreOrdersLocked script w = AreLockedOrders script (marks_in w.steps) w.sent
