use Rattle.std.proofs.Common.{◌∙◌, List, ap, sym}
use Rattle.std.specs.Prelude.{map, filter}
use Rattle.std.proofs.lemmas.Simd.{map-map}
use Rattle.gx_locks.specs.declared.slot.Slot.{Slot}
use Rattle.gx_locks.proofs.ledger.Ledger.claims.Goals as goal

pub returns : goal.returns
returns c =
    rw (← c.self.view_is) (c.in_ok-claims.ensures ∙ ap (λ (slots : List Slot). map (λ slot. slot.hold.claim) (filter (λ slot. slot.stands) slots)) c.as_slice.ensures.value ∙ sym (map-map (λ hold. hold.claim) (λ slot. slot.hold) (filter (λ slot. slot.stands) c.self.inside.slots.items)))
