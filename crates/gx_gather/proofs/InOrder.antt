-- A list in an order is the only one in that order with the same items at each tie.
use Rattle.std.proofs.Common.{suc, add-one, ◌<◌, ◌≡◌, ◌∙◌, Bool, true, false, cond, List, [], ◌∷◌, filter, length, get_or, refl, ap, sym, arith}
use Rattle.std.proofs.lemmas.Cmp.{alike_right, tied_itself, upto}
use Rattle.std.specs.Cmp.{IsTotalOrder}
use Rattle.std.specs.List.{AllByRecursion}
use Rattle.std.specs.List.Sorted.{IsSortedBy}
use Rattle.std.specs.Ordering.{is_eq, is_gt, is_lt, ordering_reverse}
use Rattle.std.specs.declared.cmp.Ordering.{Ordering}
use Rattle.std.specs.declared.cmp.Ordering.TheVariants.{Less, Equal, Greater}
use native.Mathlib.Numerals.{unary_clauses}
use Rattle.gx_meaning.specs.Order.{in_order, placed}

pub Equal-from : (o : Ordering) → is_eq o ≡ true → o ≡ Equal
Equal-from Less e = cc
Equal-from Equal e = refl
Equal-from Greater e = cc

pub not_above-reverse : (o : Ordering) → is_gt o ≡ true → is_gt (ordering_reverse o) ≡ false
not_above-reverse Less e = cc
not_above-reverse Equal e = cc
not_above-reverse Greater e = refl

not_above-from : (o : Ordering) → is_lt (ordering_reverse o) ≡ false → is_gt o ≡ false
not_above-from Less e = refl
not_above-from Equal e = refl
not_above-from Greater e = cc

pub tied-from : (o : Ordering) → is_gt o ≡ false → is_gt (ordering_reverse o) ≡ false → o ≡ Equal
tied-from Less e f = cc
tied-from Equal e f = refl
tied-from Greater e f = cc

cond-both : {A : Type 0} (p q : Bool) (x y : A) (l : List A) → (p ≡ true → q ≡ true → ⊥) → cond p (y ∷ cond q (x ∷ l) l) (cond q (x ∷ l) l) ≡ cond q (x ∷ cond p (y ∷ l) l) (cond p (y ∷ l) l)
cond-both true true x y l not_both = absurd (not_both refl refl)
cond-both true false x y l not_both = refl
cond-both false true x y l not_both = refl
cond-both false false x y l not_both = refl

cond-tail : {A : Type 0} (p : Bool) (x : A) (l m : List A) → cond p (x ∷ l) l ≡ cond p (x ∷ m) m → l ≡ m
cond-tail true x l m e = cc
cond-tail false x l m e = e

module _ {X : Type 0} {R : X → X → Ordering} (o : IsTotalOrder R) where
  -- no item is above a later one
  abbrev pub Rises : List X → Type 0
  Rises [] = Unit {0}
  Rises (x ∷ xs) = AllByRecursion (λ y. is_gt (R x y) ≡ false) xs × Rises xs

  below_all : (x y : X) (xs : List X) → is_gt (R x y) ≡ false → AllByRecursion (λ z. is_gt (R y z) ≡ false) xs → AllByRecursion (λ z. is_gt (R x z) ≡ false) xs
  below_all x y [] b all = tt
  below_all x y (z ∷ xs) b all = (upto o x y z b all.0, below_all x y xs b all.1)

  not_above-step : (q x y z : X) (ys zs : List X) (b : Bool) → is_eq (R q y) ≡ b → is_gt (R x y) ≡ false → cond b (y ∷ filter (λ y. is_eq (R q y)) ys) (filter (λ y. is_eq (R q y)) ys) ≡ z ∷ zs → (filter (λ y. is_eq (R q y)) ys ≡ z ∷ zs → is_gt (R x q) ≡ false) → is_gt (R x q) ≡ false
  not_above-step q x y z ys zs true t first e more = ap is_gt (alike_right o q y x (Equal-from (R q y) t)) ∙ first
  not_above-step q x y z ys zs false t first e more = more e

  -- an item is not above one that ties with a later one
  not_above : (q x z : X) (xs zs : List X) → AllByRecursion (λ y. is_gt (R x y) ≡ false) xs → filter (λ y. is_eq (R q y)) xs ≡ z ∷ zs → is_gt (R x q) ≡ false
  not_above q x z [] zs all e = absurd (cc)
  not_above q x z (y ∷ ys) zs all e = not_above-step q x y z ys zs (is_eq (R q y)) refl all.0 e (not_above q x z ys zs all.1)

  at_itself : (x : X) (xs : List X) → filter (λ y. is_eq (R x y)) (x ∷ xs) ≡ x ∷ filter (λ y. is_eq (R x y)) xs
  at_itself x xs = ap (λ t. cond (is_eq t) (x ∷ filter (λ y. is_eq (R x y)) xs) (filter (λ y. is_eq (R x y)) xs)) (tied_itself o x)

  with_itself : (x : X) (xs : List X) → AllByRecursion (λ y. is_gt (R x y) ≡ false) xs → AllByRecursion (λ y. is_gt (R x y) ≡ false) (x ∷ xs)
  with_itself x xs all = (ap is_gt (tied_itself o x), all)

  -- lists in order with the same items at each tie are the same
  pub rises_same : (xs ys : List X) → Rises xs → Rises ys → ((q : X) → filter (λ x. is_eq (R q x)) xs ≡ filter (λ x. is_eq (R q x)) ys) → xs ≡ ys
  rises_same [] [] up vp same = refl
  rises_same [] (y ∷ ys) up vp same = let e : [] ≡ y ∷ filter (λ x. is_eq (R y x)) ys = same y ∙ at_itself y ys in absurd (cc)
  rises_same (x ∷ xs) [] up vp same = let e : x ∷ filter (λ y. is_eq (R x y)) xs ≡ [] = sym (at_itself x xs) ∙ same x in absurd (cc)
  rises_same (x ∷ xs) (y ∷ ys) up vp same =
      let a : is_gt (R x y) ≡ false = not_above y x y (x ∷ xs) _ (with_itself x xs up.0) (same y ∙ at_itself y ys) in
      let b : is_gt (R y x) ≡ false = not_above x y x (y ∷ ys) _ (with_itself y ys vp.0) (sym (same x) ∙ at_itself x xs) in
      let tie : R x y ≡ Equal = tied-from (R x y) a (ap is_gt (sym (o.antisymm y x)) ∙ b) in
      let first : x ∷ filter (λ z. is_eq (R x z)) xs ≡ y ∷ filter (λ z. is_eq (R x z)) ys =
      sym (at_itself x xs) ∙ same x ∙ ap (λ t. cond (is_eq t) (y ∷ filter (λ z. is_eq (R x z)) ys) (filter (λ z. is_eq (R x z)) ys)) tie in
      let head : x ≡ y = cc in
      let rest : xs ≡ ys = rises_same xs ys up.1 vp.1 (λ q. cond-tail (is_eq (R q x)) x _ _ (same q ∙ ap (λ z. filter (λ w. is_eq (R q w)) (z ∷ ys)) (sym head))) in
      cc

  all_placed-step : (P : X → Type 0) (x y : X) (ys : List X) (b : Bool) → P x → P y → AllByRecursion P ys → AllByRecursion P (placed R x ys) → AllByRecursion P (cond b (y ∷ placed R x ys) (x ∷ y ∷ ys))
  all_placed-step P x y ys true p q all more = (q, more)
  all_placed-step P x y ys false p q all more = (p, (q, all))

  all_placed : (P : X → Type 0) (x : X) (ys : List X) → P x → AllByRecursion P ys → AllByRecursion P (placed R x ys)
  all_placed P x [] p all = (p, tt)
  all_placed P x (y ∷ ys) p all = all_placed-step P x y ys (is_gt (R x y)) p all.0 all.1 (all_placed P x ys p all.1)

  rises_placed-step : (x y : X) (ys : List X) (b : Bool) → is_gt (R x y) ≡ b → Rises (y ∷ ys) → Rises (placed R x ys) → Rises (cond b (y ∷ placed R x ys) (x ∷ y ∷ ys))
  rises_placed-step x y ys true above up more = (all_placed (λ z. is_gt (R y z) ≡ false) x ys (ap is_gt (o.antisymm y x) ∙ not_above-reverse (R x y) above) up.0, more)
  rises_placed-step x y ys false above up more = ((above, below_all x y ys above up.0), up)

  rises_placed : (x : X) (ys : List X) → Rises ys → Rises (placed R x ys)
  rises_placed x [] up = (tt, tt)
  rises_placed x (y ∷ ys) up = rises_placed-step x y ys (is_gt (R x y)) refl up (rises_placed x ys up.1)

  pub rises_in_order : (xs : List X) → Rises (in_order R xs)
  rises_in_order [] = tt
  rises_in_order (x ∷ xs) = rises_placed x (in_order R xs) (rises_in_order xs)

  not_both : (q x y : X) → is_gt (R x y) ≡ true → is_eq (R q y) ≡ true → is_eq (R q x) ≡ true → ⊥
  not_both q x y above a b =
      let e : R q y ≡ R x y = o.congr q x y (Equal-from (R q x) b) in
      let f : R q y ≡ Equal = Equal-from (R q y) a in
      let g : is_gt Equal ≡ true = ap is_gt (sym f ∙ e) ∙ above in
      cc

  filter_placed-step : (q x y : X) (ys : List X) (b : Bool) → is_gt (R x y) ≡ b → filter (λ y. is_eq (R q y)) (placed R x ys) ≡ filter (λ y. is_eq (R q y)) (x ∷ ys) → filter (λ y. is_eq (R q y)) (cond b (y ∷ placed R x ys) (x ∷ y ∷ ys)) ≡ filter (λ y. is_eq (R q y)) (x ∷ y ∷ ys)
  filter_placed-step q x y ys true above more =
      ap (λ l. cond (is_eq (R q y)) (y ∷ l) l) more ∙ cond-both (is_eq (R q y)) (is_eq (R q x)) x y (filter (λ y. is_eq (R q y)) ys) (not_both q x y above)
  filter_placed-step q x y ys false above more = refl

  filter_placed : (q x : X) (ys : List X) → filter (λ y. is_eq (R q y)) (placed R x ys) ≡ filter (λ y. is_eq (R q y)) (x ∷ ys)
  filter_placed q x [] = refl
  filter_placed q x (y ∷ ys) = filter_placed-step q x y ys (is_gt (R x y)) refl (filter_placed q x ys)

  pub filter-in_order : (q : X) (xs : List X) → filter (λ y. is_eq (R q y)) (in_order R xs) ≡ filter (λ y. is_eq (R q y)) xs
  filter-in_order q [] = refl
  filter-in_order q (x ∷ xs) = filter_placed q x (in_order R xs) ∙ ap (λ l. cond (is_eq (R q x)) (x ∷ l) l) (filter-in_order q xs)

  rises_first : (x : X) (xs : List X) → ((d : X) → 0 < length xs → is_gt (R x (get_or xs 0 d)) ≡ false) → Rises xs → AllByRecursion (λ y. is_gt (R x y) ≡ false) xs
  rises_first x [] first up = tt
  rises_first x (y ∷ ys) first up = let b : is_gt (R x y) ≡ false = first x (omega arith) in (b, below_all x y ys b up.0)

  -- what a sort ensures
  pub rises_from_sorted : (xs : List X) → IsSortedBy (λ x y. is_lt (R x y)) xs → Rises xs
  rises_from_sorted [] sorted = tt
  rises_from_sorted (x ∷ xs) sorted =
      let up : Rises xs = rises_from_sorted xs (λ k d low high. rw add-one (simp unary_clauses at (sorted (suc k) d (omega arith) (omega arith)))) in
      (rises_first x xs (λ d more. not_above-from (R x (get_or xs 0 d)) (ap is_lt (sym (o.antisymm (get_or xs 0 d) x)) ∙ sorted 0 d (omega arith) (omega arith))) up, up)

  -- a sorted list with the items of another at each tie is that other one in order
  pub in_order_is : (xs ys : List X) → IsSortedBy (λ x y. is_lt (R x y)) ys → ((q : X) → filter (λ y. is_eq (R q y)) ys ≡ filter (λ y. is_eq (R q y)) xs) → ys ≡ in_order R xs
  in_order_is xs ys sorted same =
      rises_same ys (in_order R xs) (rises_from_sorted ys sorted) (rises_in_order xs) (λ q. same q ∙ sym (filter-in_order q xs))
