-- Items at places, in lists that grow or change at one place.
use Rattle.std.proofs.Common.{◌≡◌, ◌≢◌, ◌⊎◌, inl, inr, ℕ, zero, suc, ◌==◌, Bool, true, false, List, [], ◌∷◌, ◌++◌, length, slice_get, slice_set, refl, sym, ap, subst, arith, All}
use Rattle.std.proofs.lemmas.Bool.Decides.{nat_tests}
use Rattle.std.proofs.lemmas.Option.{get_or_from_slice_get, same_Some, slice_get_within}
use Rattle.std.specs.Prelude.{Some}

-- TESTS
pub same_from : (m n : ℕ) → (m == n) ≡ true → m ≡ n
same_from m n h = grind (arith, nat_tests)

pub same_number : (n : ℕ) → (n == n) ≡ true
same_number n = grind (arith, nat_tests)

pub apart_from : (m n : ℕ) → m ≢ n → (m == n) ≡ false
apart_from m n h = grind (arith, nat_tests)

-- two tests that are passed alike
pub both_ways : (a b : Bool) → (a ≡ true → b ≡ true) → (b ≡ true → a ≡ true) → a ≡ b
both_ways true b there back = sym (there refl)
both_ways false true there back = back refl
both_ways false false there back = refl

-- ONE ITEM CHANGES
pub set-here : {X : Type 0} (xs : List X) (i : ℕ) (x y : X) → slice_get xs i ≡ Some x → slice_get (slice_set xs i y) i ≡ Some y
set-here [] i x y e = absurd (cc)
set-here (z ∷ zs) zero x y e = refl
set-here (z ∷ zs) (suc i) x y e = set-here zs i x y e

pub set-other : {X : Type 0} (xs : List X) (i j : ℕ) (y : X) → j ≢ i → slice_get (slice_set xs i y) j ≡ slice_get xs j
set-other [] i j y other = refl
set-other (z ∷ zs) zero zero y other = absurd (other refl)
set-other (z ∷ zs) zero (suc j) y other = refl
set-other (z ∷ zs) (suc i) zero y other = refl
set-other (z ∷ zs) (suc i) (suc j) y other = set-other zs i j y (λ e. other (ap suc e))

pub length-set : {X : Type 0} (xs : List X) (i : ℕ) (y : X) → length (slice_set xs i y) ≡ length xs
length-set [] i y = refl
length-set (x ∷ xs) zero y = refl
length-set (x ∷ xs) (suc i) y = ap suc (length-set xs i y)

-- ONE ITEM MORE
pub kept : {X : Type 0} (xs ys : List X) (i : ℕ) (x : X) → slice_get xs i ≡ Some x → slice_get (xs ++ ys) i ≡ Some x
kept [] ys i x e = absurd (cc)
kept (z ∷ zs) ys zero x e = e
kept (z ∷ zs) ys (suc i) x e = kept zs ys i x e

pub last : {X : Type 0} (xs : List X) (x : X) → slice_get (xs ++ x ∷ []) (length xs) ≡ Some x
last [] x = refl
last (z ∷ zs) x = last zs x

pub pushed : {X : Type 0} (xs : List X) (x y : X) (i : ℕ) → slice_get (xs ++ x ∷ []) i ≡ Some y → ((i ≡ length xs) × (x ≡ y)) ⊎ (slice_get xs i ≡ Some y)
pushed [] x y zero e = inl (refl, same_Some x y e)
pushed [] x y (suc i) e = absurd (cc)
pushed (z ∷ zs) x y zero e = inr e
pushed (z ∷ zs) x y (suc i) e = later (pushed zs x y i e)
  where
    later : ((i ≡ length zs) × (x ≡ y)) ⊎ (slice_get zs i ≡ Some y) → ((suc i ≡ length (z ∷ zs)) × (x ≡ y)) ⊎ (slice_get zs i ≡ Some y)
    later (inl h) = inl (ap suc h.0, h.1)
    later (inr f) = inr f

-- ALL ITEMS
pub all-at : {X : Type 0} (P : X → Type 0) (xs : List X) (i : ℕ) (x : X) → All P xs → slice_get xs i ≡ Some x → P x
all-at P xs i x all e = subst P (get_or_from_slice_get xs i x x e) (all i x (slice_get_within xs i x e))
