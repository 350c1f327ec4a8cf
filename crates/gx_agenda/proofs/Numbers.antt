-- Tests of numbers, and places in lists.
use Rattle.std.proofs.Common.{◌≡◌, ◌⊎◌, inl, inr, ℕ, suc, zero, ◌+◌, ◌<◌, ◌≤◌, true, false, nat_lt, refl, sym, ap, ◌∙◌, List, [], ◌∷◌, ◌++◌, length, Some, unwrap_or, arith, ⊎_elim}
use Rattle.std.proofs.lemmas.Bool.Decides.{nat_tests}
use Rattle.std.proofs.lemmas.Option.{slice_get-get_or, unwrap_or-slice_get}
use Rattle.std.specs.List.{slice_get}

-- a number is before the next one, that one, or behind it
pub three : (n done : ℕ) → (n ≤ done) ⊎ ((n ≡ done + 1) ⊎ (done + 1 < n))
three n done = grind arith

pub is_below : (a b : ℕ) → a < b → nat_lt a b ≡ true
is_below a b below = grind (arith, nat_tests)

pub isnt_below : (a b : ℕ) → a ≡ b → nat_lt a b ≡ false
isnt_below a b same = grind (arith, nat_tests)

-- what stands at a place inside
pub stands_inside : {X : Type 0} (xs : List X) (k : ℕ) (d : X) → k < length xs → slice_get xs k ≡ Some (unwrap_or (slice_get xs k) d)
stands_inside xs k d within = slice_get-get_or xs k d within ∙ ap Some (sym (unwrap_or-slice_get xs k d))

-- what stands at a place of a list with one item more
pub stands_pushed : {X : Type 0} (xs : List X) (y : X) (k : ℕ) (x : X) → slice_get (xs ++ y ∷ []) k ≡ Some x → (slice_get xs k ≡ Some x) ⊎ ((k ≡ length xs) × (y ≡ x))
stands_pushed [] y zero x e = inr (refl, cc)
stands_pushed [] y (suc k) x e = absurd (cc)
stands_pushed (z ∷ zs) y zero x e = inl e
stands_pushed (z ∷ zs) y (suc k) x e = ⊎_elim (λ old. inl old) (λ (new : (k ≡ length zs) × (y ≡ x)). inr (ap suc new.0, new.1)) (stands_pushed zs y k x e)
