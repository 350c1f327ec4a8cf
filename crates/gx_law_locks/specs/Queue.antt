-- Nobody is granted a lock past an earlier wait that conflicts, but for those that a hold of its own blocks.
use Rattle.std.specs.Prelude.{◌≡◌, List, ◌∷◌, ◌++◌, Any, Contains}
use Rattle.gx_waits.specs.Claim.{Meets}
use Rattle.gx_waits.specs.Claims.{claim}
use Rattle.gx_waits.specs.declared.claim.Claim.{Claim}
use Rattle.gx_store.specs.declared.mark.Mark.{Mark}
use Rattle.gx_store.specs.declared.mark.Mark.TheVariants.{Hold}
use Rattle.gx_store.specs.Waits.{holds_at, waits_at}

-- among these waits one stands, and the claim isn't one of those before it
pub record IsEarlier (waits : List Claim) (wait claim : Claim) : Type 0 where
  pub front : List Claim
  pub back : List Claim
  pub split : waits ≡ front ++ wait ∷ back
  pub none : Contains front claim → ⊥

-- Whoever is granted a lock that meets an earlier wait holds something at the node, on the same object, that the wait meets in its turn.
abbrev pub PassesNobody : List Mark → Mark → Type 0
PassesNobody before (Hold node g object mode) =
    (wait : Claim) → IsEarlier (waits_at before node) wait (claim g object mode) → Meets (claim g object mode) wait
    → Any (λ hold. (hold.gxid ≡ g) × Meets wait hold) (holds_at before node)
PassesNobody before _ = Unit {0}
