use Rattle.std.proofs.Common.{◌∙◌, ap, sym}
use Rattle.std.proofs.lemmas.List.{get_or_default}
use Rattle.gx_locks.specs.declared.slot.Slot.{Slot}
use Rattle.gx_locks.specs.Holds.{same_hold}
use Rattle.gx_locks.proofs.Slots.{none_has}
use Rattle.gx_locks.proofs.slot.find.Goals as goal

pub returns-else-is_same_hold-clause-nowhere : goal.returns-else-is_same_hold-clause-nowhere
returns-else-is_same_hold-clause-nowhere c =
    let inside = c.in_ok-place.ensures.there.0 in
    none_has c.args.hold.now c.args.slots.now c.in_ok-place.place c.requires inside c.in_ok-place.ensures.there.1
    (λ d. ap (λ (s : Slot). same_hold c.args.hold.now s.hold) (get_or_default _ _ d _ inside) ∙ (sym c.is_same_hold.ensures ∙ c.if-is_same_hold.false))
