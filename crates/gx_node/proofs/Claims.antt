-- The order of claims is total, and what it makes of two.
use Rattle.std.proofs.Common.{◌≡◌, ◌∙◌, true, false, cond, List, [], ◌∷◌, ap, sym}
use Rattle.std.specs.Cmp.{IsTotalOrder, nat_cmp_total, on_total, then_total}
use Rattle.std.specs.Ordering.{is_gt}
use Rattle.gx_locks.specs.Holds.{claims_of}
use Rattle.gx_locks.specs.declared.hold.Hold.{Hold}
use Rattle.gx_meaning.specs.Order.{in_order}
use Rattle.gx_modes.specs.Table.{number_of}
use Rattle.gx_waits.specs.contracts.object.ObjectOrd.TheImpl as object
use Rattle.gx_waits.specs.declared.claim.Claim.{Claim}
use Rattle.gx_rules.specs.Locks.{claim_order}

pub claim_order-total : IsTotalOrder object.ghosts.cmp → IsTotalOrder claim_order
claim_order-total total = then_total (on_total (λ (c : Claim). c.object) total) (on_total (λ (c : Claim). number_of c.mode) nat_cmp_total)

-- two claims in order
pub two_turned : (xs : List Hold) (a b : Hold) → xs ≡ a ∷ b ∷ [] → is_gt (claim_order a.claim b.claim) ≡ true → claims_of (b ∷ a ∷ []) ≡ in_order claim_order (claims_of xs)
two_turned xs a b are above =
    sym (ap (λ (hs : List Hold). in_order claim_order (claims_of hs)) are ∙ ap (λ t. cond t (b.claim ∷ a.claim ∷ []) (a.claim ∷ b.claim ∷ [])) above)

pub two_kept : (xs : List Hold) (a b : Hold) → xs ≡ a ∷ b ∷ [] → is_gt (claim_order a.claim b.claim) ≡ false → claims_of xs ≡ in_order claim_order (claims_of xs)
two_kept xs a b are below =
    ap claims_of are ∙ sym (ap (λ (hs : List Hold). in_order claim_order (claims_of hs)) are ∙ ap (λ t. cond t (b.claim ∷ a.claim ∷ []) (a.claim ∷ b.claim ∷ [])) below)
