-- What a stable sort by a total order leaves is the rule's list in that order.
use Rattle.std.proofs.Common.{◌≡◌, ◌∙◌, Bool, true, false, cond, not, List, [], ◌∷◌, filter, map, refl, ap, sym}
use Rattle.std.specs.Cmp.{IsTotalOrder}
use Rattle.std.specs.List.Sorted.{IsSortedBy, IsStableBy, ties}
use Rattle.std.specs.Ordering.{is_eq, is_gt, is_lt, ordering_reverse}
use Rattle.std.specs.Prelude.{◌&&◌}
use Rattle.std.specs.declared.cmp.Ordering.{Ordering}
use Rattle.std.specs.declared.cmp.Ordering.TheVariants.{Less, Equal, Greater}
use Rattle.gx_meaning.specs.Order.{in_order, placed}
use Rattle.gx_gather.proofs.InOrder.{filter-in_order, in_order_is, rises_in_order, rises_same}

neither-reverse : (o : Ordering) → (not (is_lt (ordering_reverse o)) && not (is_lt o)) ≡ is_eq (ordering_reverse o)
neither-reverse Less = refl
neither-reverse Equal = refl
neither-reverse Greater = refl

module _ {X : Type 0} {R : X → X → Ordering} (o : IsTotalOrder R) where
  abbrev below : X → X → Bool
  below a b = is_lt (R a b)

  tied : (x y : X) → ties below x y ≡ is_eq (R x y)
  tied x y = ap (λ t. not (is_lt t) && not (is_lt (R y x))) (o.antisymm x y) ∙ neither-reverse (R y x) ∙ ap is_eq (sym (o.antisymm x y))

  by-tie : (q : X) (xs : List X) → filter (ties below q) xs ≡ filter (λ y. is_eq (R q y)) xs
  by-tie q xs = λ i. filter (λ y. tied q y i) xs

  pub stably_sorted : (xs ys : List X) → IsSortedBy below ys → IsStableBy below xs ys → ys ≡ in_order R xs
  stably_sorted xs ys sorted stable = in_order_is o xs ys sorted (λ q. sym (by-tie q ys) ∙ stable q ∙ by-tie q xs)

  -- lists with the same items at each tie are the same in order
  pub in_order-same : (xs ys : List X) → ((q : X) → filter (λ y. is_eq (R q y)) xs ≡ filter (λ y. is_eq (R q y)) ys) → in_order R xs ≡ in_order R ys
  in_order-same xs ys same =
      rises_same o (in_order R xs) (in_order R ys) (rises_in_order o xs) (rises_in_order o ys) (λ q. filter-in_order o q xs ∙ same q ∙ sym (filter-in_order o q ys))

-- a list in the order of what f gives of its items
module _ {X Y : Type 0} (f : X → Y) (R : Y → Y → Ordering) where
  abbrev by : X → X → Ordering
  by a b = R (f a) (f b)

  map-placed-step : (x y : X) (ys : List X) (b : Bool) → map f (placed by x ys) ≡ placed R (f x) (map f ys) → map f (cond b (y ∷ placed by x ys) (x ∷ y ∷ ys)) ≡ cond b (f y ∷ placed R (f x) (map f ys)) (f x ∷ f y ∷ map f ys)
  map-placed-step x y ys true more = ap (λ l. f y ∷ l) more
  map-placed-step x y ys false more = refl

  map-placed : (x : X) (ys : List X) → map f (placed by x ys) ≡ placed R (f x) (map f ys)
  map-placed x [] = refl
  map-placed x (y ∷ ys) = map-placed-step x y ys (is_gt (R (f x) (f y))) (map-placed x ys)

  pub map-in_order : (xs : List X) → map f (in_order by xs) ≡ in_order R (map f xs)
  map-in_order [] = refl
  map-in_order (x ∷ xs) = map-placed x (in_order by xs) ∙ ap (placed R (f x)) (map-in_order xs)
