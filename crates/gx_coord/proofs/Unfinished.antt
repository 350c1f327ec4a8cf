-- Sessions one by one.
use Rattle.std.proofs.Common.{◌≡◌, ◌<◌, ◌+◌, ℕ, Bool, true, false, refl, sym, subst, eqb}
use Rattle.std.proofs.lemmas.Bool.{eqb-true}
use Rattle.gx_lemmas.proofs.Numbers.{lt-next}
use Rattle.gx_ids.specs.declared.ids.SessionId.{SessionId}

pub none-up-to : (p : SessionId → Bool) (n : ℕ) → ((id : SessionId) → id.0 < n → p id ≡ false) → p (record { 0 = n }) ≡ false → (id : SessionId) → id.0 < n + 1 → p id ≡ false
none-up-to p n before here id l = by_test (eqb id.0 n) refl
  where
    by_test : (b : Bool) → eqb id.0 n ≡ b → p id ≡ false
    by_test true e = subst (λ (k : ℕ). p (record { 0 = k }) ≡ false) (sym (eqb-true id.0 n e)) here
    by_test false e = before id (lt-next id.0 n l e)
