-- Holds by number, and what they are found by.
use Rattle.std.specs.Prelude.{Bool, ◌==◌, ◌&&◌, List, map, filter}
use Rattle.gx_waits.specs.declared.claim.Claim.{Claim}
use Rattle.gx_locks.specs.declared.hold.Hold.{Hold}
use Rattle.gx_locks.specs.declared.slot.Slot.{Slot}
use Rattle.gx_locks.specs.declared.key.Key.{Key}
use Rattle.gx_locks.specs.declared.key.Key.TheVariants.{On, Of}
use Rattle.gx_waits.specs.Claim.{same_claim, same_object}
use Rattle.gx_waits.specs.Claims.{is_of}

-- whether two holds are one
abbrev pub same_hold : Hold → Hold → Bool
same_hold a b = (a.number == b.number) && same_claim a.claim b.claim

-- whether a claim stands under the key: it is on that object, or of that transaction
abbrev pub is_under : Key → Claim → Bool
is_under (On object) claim = same_object object claim.object
is_under (Of gxid) claim = is_of gxid claim

-- the claims of holds
abbrev pub claims_of : List Hold → List Claim
claims_of holds = map (λ hold. hold.claim) holds

-- the holds of the slots that still stand
abbrev pub standing : List Slot → List Hold
standing slots = map (λ slot. slot.hold) (filter (λ slot. slot.stands) slots)
