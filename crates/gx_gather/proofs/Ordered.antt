-- A list in an order is sorted, and has the same items.
use Rattle.std.proofs.Common.{ℕ, zero, suc, ◌+◌, ◌<◌, ◌≡◌, ◌∙◌, Bool, true, false, cond, List, [], ◌∷◌, length, get_or, refl, ap, arith}
use Rattle.std.proofs.lemmas.List.Sorted.{IsPermutation-cons, IsPermutation-middle, IsPermutation-refl, IsPermutation-sym, IsPermutation-trans}
use Rattle.std.specs.Cmp.{IsTotalOrder}
use Rattle.std.specs.List.Sorted.{IsPermutation, IsSorted}
use Rattle.std.specs.Ordering.{is_gt, is_lt, ordering_reverse}
use Rattle.std.specs.declared.cmp.Ordering.{Ordering}
use Rattle.std.specs.declared.cmp.Ordering.TheVariants.{Less, Equal, Greater}
use Rattle.gx_meaning.specs.Order.{in_order, placed}
use Rattle.gx_gather.proofs.InOrder.{Rises, rises_in_order}

not_less-reverse : (o : Ordering) → is_gt o ≡ false → is_lt (ordering_reverse o) ≡ false
not_less-reverse Less e = refl
not_less-reverse Equal e = refl
not_less-reverse Greater e = cc

module _ {X : Type 0} {R : X → X → Ordering} (o : IsTotalOrder R) where
  placed-step : (x y : X) (ys : List X) (b : Bool) → IsPermutation (x ∷ ys) (placed R x ys) → IsPermutation (x ∷ y ∷ ys) (cond b (y ∷ placed R x ys) (x ∷ y ∷ ys))
  placed-step x y ys true more =
      IsPermutation-trans (x ∷ y ∷ ys) (y ∷ x ∷ ys) (y ∷ placed R x ys) (IsPermutation-sym (y ∷ x ∷ ys) (x ∷ y ∷ ys) (IsPermutation-middle (y ∷ []) x ys)) (IsPermutation-cons y (x ∷ ys) (placed R x ys) more)
  placed-step x y ys false more = IsPermutation-refl (x ∷ y ∷ ys)

  placed-permutation : (x : X) (ys : List X) → IsPermutation (x ∷ ys) (placed R x ys)
  placed-permutation x [] = IsPermutation-refl (x ∷ [])
  placed-permutation x (y ∷ ys) = placed-step x y ys (is_gt (R x y)) (placed-permutation x ys)

  pub in_order-permutation : (xs : List X) → IsPermutation xs (in_order R xs)
  in_order-permutation [] = IsPermutation-refl []
  in_order-permutation (x ∷ xs) =
      IsPermutation-trans (x ∷ xs) (x ∷ in_order R xs) (in_order R (x ∷ xs)) (IsPermutation-cons x xs (in_order R xs) (in_order-permutation xs)) (placed-permutation x (in_order R xs))

  sorted-at : (xs : List X) → Rises o xs → (k j : ℕ) (d : X) → j ≡ k + 1 → j < length xs → is_lt (R (get_or xs j d) (get_or xs k d)) ≡ false
  sorted-at [] up k j d next high = absurd (omega (arith, high))
  sorted-at (x ∷ []) up k j d next high = absurd (omega (arith, high, next))
  sorted-at (x ∷ y ∷ ys) up zero zero d next high = absurd (omega (arith, next))
  sorted-at (x ∷ y ∷ ys) up zero (suc zero) d next high = ap is_lt (o.antisymm y x) ∙ not_less-reverse (R x y) up.0.0
  sorted-at (x ∷ y ∷ ys) up zero (suc (suc j)) d next high = absurd (omega (arith, next))
  sorted-at (x ∷ y ∷ ys) up (suc k) zero d next high = absurd (omega (arith, next))
  sorted-at (x ∷ y ∷ ys) up (suc k) (suc j) d next high = sorted-at (y ∷ ys) up.1 k j d (omega (arith, next)) (omega (arith, high))

  pub in_order-sorted : (xs : List X) → IsSorted R (in_order R xs)
  in_order-sorted xs = λ k d low high. sorted-at (in_order R xs) (rises_in_order o xs) k (k + 1) d refl high
