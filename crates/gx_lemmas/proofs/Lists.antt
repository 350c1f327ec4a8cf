-- Places in lists.
use Rattle.std.proofs.Common.{◌≡◌, ◌≢◌, ◌<◌, ℕ, ◌+◌, zero, suc, List, [], ◌∷◌, ◌++◌, Some, length, slice_get, slice_set, refl, ap, arith}

pub length-push : {A : Type 0} (xs : List A) (x : A) → length (xs ++ x ∷ []) ≡ length xs + 1
length-push [] x = refl
length-push (y ∷ ys) x = next _ _ (length-push ys x)
  where
    next : (a b : ℕ) → a ≡ b + 1 → suc a ≡ suc b + 1
    next a b e = omega arith

pub length-set : {A : Type 0} (xs : List A) (i : ℕ) (y : A) → length (slice_set xs i y) ≡ length xs
length-set [] i y = refl
length-set (x ∷ xs) zero y = refl
length-set (x ∷ xs) (suc i) y = ap suc (length-set xs i y)

pub place-below : {A : Type 0} (xs : List A) (i : ℕ) (x : A) → slice_get xs i ≡ Some x → i < length xs
place-below [] i x e = cc
place-below (y ∷ ys) zero x e = omega arith
place-below (y ∷ ys) (suc i) x e = omega (arith, place-below ys i x e)

pub get-set : {A : Type 0} (xs : List A) (i : ℕ) (x y : A) → slice_get xs i ≡ Some x → slice_get (slice_set xs i y) i ≡ Some y
get-set [] i x y e = absurd (cc)
get-set (z ∷ zs) zero x y e = refl
get-set (z ∷ zs) (suc i) x y e = get-set zs i x y e

pub get-set-other : {A : Type 0} (xs : List A) (i j : ℕ) (y : A) → j ≢ i → slice_get (slice_set xs i y) j ≡ slice_get xs j
get-set-other [] i j y other = refl
get-set-other (z ∷ zs) zero zero y other = absurd (other refl)
get-set-other (z ∷ zs) zero (suc j) y other = refl
get-set-other (z ∷ zs) (suc i) zero y other = refl
get-set-other (z ∷ zs) (suc i) (suc j) y other = get-set-other zs i j y (λ e. other (ap suc e))

pub get-append : {A : Type 0} (xs ys : List A) (i : ℕ) (x : A) → slice_get xs i ≡ Some x → slice_get (xs ++ ys) i ≡ Some x
get-append [] ys i x e = absurd (cc)
get-append (z ∷ zs) ys zero x e = e
get-append (z ∷ zs) ys (suc i) x e = get-append zs ys i x e
