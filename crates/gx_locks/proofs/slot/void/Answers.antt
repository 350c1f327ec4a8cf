use Rattle.std.proofs.Common.{◌≡◌, ◌<◌, List, length, get_or, sym, subst, refl, true, false}
use Rattle.std.specs.Prelude.{All}
use Rattle.gx_locks.specs.declared.slot.Slot.{Slot}
use Rattle.gx_locks.specs.Holds.{same_hold}
use Rattle.gx_locks.proofs.Slots.{standing-voided, standing-struck_none}
use Rattle.gx_locks.proofs.slot.void.Goals as goal

pub returns-in-Some-clause-standing : goal.returns-in-Some-clause-standing
returns-in-Some-clause-standing c =
    standing-voided c.args.hold.now c.args.slots.now.items c.in-Some.place (record { hold = c.args.hold.now; stands = false }) refl c.requires
    (subst (λ (ss : List Slot). (c.in-Some.place < length ss) × ((d : Slot) → same_hold c.args.hold.now (get_or ss c.in-Some.place d).hold ≡ true)) c.as_slice.ensures.value c.in-Some.ensures.there)

pub returns-in_default-clause-standing : goal.returns-in_default-clause-standing
returns-in_default-clause-standing c =
    sym (standing-struck_none c.args.hold.now c.args.slots.now.items (subst (λ (ss : List Slot). All (λ slot. same_hold c.args.hold.now slot.hold ≡ false) ss) c.as_slice.ensures.value c.in_default.ensures.nowhere))
