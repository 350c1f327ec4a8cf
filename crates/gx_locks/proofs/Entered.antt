-- A hold that is new is entered, and taken out again.
use Rattle.std.proofs.Common.{◌≡◌, ◌≢◌, List, [], ◌∷◌, ◌++◌, sym, ap, subst, ◌∙◌, true, false, not, ⊎_elim}
use Rattle.std.specs.Prelude.{filter}
use Rattle.gx_locks.specs.declared.hold.Hold.{Hold}
use Rattle.gx_locks.specs.declared.key.Key.{Key}
use Rattle.gx_locks.specs.declared.key.Key.TheVariants.{On, Of}
use Rattle.gx_locks.specs.Holds.{same_hold, is_under}
use Rattle.gx_locks.proofs.Filed.{filter-push_other, filter-swapped, same_hold-itself}
use Rattle.gx_locks.proofs.Keys.{stands, on_isnt_of, of_isnt_on}

abbrev others : Hold → List Hold → List Hold
others h hs = filter (λ o. not (same_hold h o)) hs

-- a hold that stands nowhere stands under no key
pub fresh-filed : (h : Hold) (p : Key → List Hold) (hs : List Hold) → ((k : Key) → p k ≡ filter (λ x. is_under k x.claim) hs) → others h hs ≡ hs → (k : Key) → others h (p k) ≡ p k
fresh-filed h p hs filed fresh k =
    ap (others h) (filed k)
    ∙ filter-swapped (λ o. not (same_hold h o)) (λ x. is_under k x.claim) hs
    ∙ ap (filter (λ (x : Hold). is_under k x.claim)) fresh
    ∙ sym (filed k)

-- what was added goes
pub others-added : (h : Hold) (hs : List Hold) → others h hs ≡ hs → others h (hs ++ h ∷ []) ≡ hs
others-added h hs fresh = filter-push_other (λ o. not (same_hold h o)) hs h (ap not (same_hold-itself h)) ∙ fresh

-- it is added under its object, not under its transaction, and taken out under its object
module _ (h : Hold) (p q r s : Key → List Hold) (fresh : (k : Key) → others h (p k) ≡ p k) (added : q (On h.claim.object) ≡ p (On h.claim.object) ++ h ∷ []) (added_else : (k : Key) → k ≢ On h.claim.object → q k ≡ p k) (failed : r (Of h.claim.gxid) ≡ q (Of h.claim.gxid)) (failed_else : (k : Key) → k ≢ Of h.claim.gxid → r k ≡ q k) (struck : s (On h.claim.object) ≡ others h (r (On h.claim.object))) (struck_else : (k : Key) → k ≢ On h.claim.object → s k ≡ r k) where
  at_on : s (On h.claim.object) ≡ p (On h.claim.object)
  at_on =
      struck
      ∙ ap (others h) (failed_else (On h.claim.object) (on_isnt_of h.claim.object h.claim.gxid) ∙ added)
      ∙ others-added h (p (On h.claim.object)) (fresh (On h.claim.object))

  at_of : s (Of h.claim.gxid) ≡ p (Of h.claim.gxid)
  at_of = let other = of_isnt_on h.claim.object h.claim.gxid in struck_else (Of h.claim.gxid) other ∙ failed ∙ added_else (Of h.claim.gxid) other

  pub undone : (k : Key) → s k ≡ p k
  undone k =
      ⊎_elim
      (λ (e : (k ≡ On h.claim.object) × (is_under k h.claim ≡ true)). subst (λ l. s l ≡ p l) (sym e.0) at_on)
      (λ rest. ⊎_elim
      (λ (e : (k ≡ Of h.claim.gxid) × (is_under k h.claim ≡ true)). subst (λ l. s l ≡ p l) (sym e.0) at_of)
      (λ (e : (k ≢ On h.claim.object) × (k ≢ Of h.claim.gxid) × (is_under k h.claim ≡ false)). struck_else k e.0 ∙ failed_else k e.1 ∙ added_else k e.0)
      rest)
      (stands k h.claim)
