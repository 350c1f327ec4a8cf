-- A lock that is held is among those of its transaction.
use Rattle.std.proofs.Common.{◌≡◌, ℕ, Bool, true, false, if◌then◌else◌, eqb, ◌&&◌, ◌||◌, List, [], ◌∷◌, filter, refl, sym, ap, ◌∙◌, arith}
use Rattle.std.proofs.lemmas.Bool.Decides.{nat_tests}
use Rattle.std.specs.List.{list_any}
use Rattle.gx_waits.specs.Claim.{same_claim}
use Rattle.gx_waits.specs.declared.claim.Claim.{Claim}
use Rattle.gx_waits.specs.Claims.{is_of}

not_of : (m n : ℕ) (b : Bool) → eqb n m ≡ false → (eqb m n && b) ≡ false
not_of m n b e = grind (arith, nat_tests)

pub same_claim-of : (claim : Claim) (holds : List Claim) → list_any (same_claim claim) (filter (is_of claim.gxid) holds) ≡ list_any (same_claim claim) holds
same_claim-of claim [] = refl
same_claim-of claim (hold ∷ holds) = by_test (is_of claim.gxid hold) refl (same_claim-of claim holds)
  where
    by_test : (b : Bool) → is_of claim.gxid hold ≡ b → list_any (same_claim claim) (filter (is_of claim.gxid) holds) ≡ list_any (same_claim claim) holds
        → list_any (same_claim claim) (if b then hold ∷ filter (is_of claim.gxid) holds else filter (is_of claim.gxid) holds) ≡ (same_claim claim hold || list_any (same_claim claim) holds)
    by_test true e more = ap (λ (b : Bool). same_claim claim hold || b) more
    by_test false e more = more ∙ ap (λ (b : Bool). b || list_any (same_claim claim) holds) (sym (not_of claim.gxid.0 hold.gxid.0 _ e))
