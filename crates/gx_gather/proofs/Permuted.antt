-- What a list and its permutation have at a key that stands at most once.
use Rattle.std.proofs.Common.{ℕ, zero, suc, ◌⊎◌, inl, inr, ◌+◌, ◌<◌, ◌≤◌, ◌≡◌, ◌∙◌, Bool, true, false, cond, List, [], ◌∷◌, filter, map, length, get_or, refl, ap, sym, subst, arith}
use Rattle.std.proofs.lemmas.List.Sorted.{IsPermutation-sym, Contains-permutation, sum_by-IsPermutation}
use Rattle.std.proofs.lemmas.List.Sums.{sum_by-cons}
use Rattle.std.specs.Cmp.{IsTotalOrder}
use Rattle.std.specs.List.{AllByRecursion, Contains, sum_by}
use Rattle.std.specs.List.Sorted.{IsPermutation, IsStrictlySortedBy}
use Rattle.std.specs.Ordering.{is_eq}
use Rattle.std.specs.declared.cmp.Ordering.{Ordering}
use Rattle.std.specs.declared.cmp.Ordering.TheVariants.{Less, Equal}
use Rattle.gx_gather.proofs.InOrder.{Equal-from}

abbrev pub Has : {X : Type 0} → X → List X → Type 0
Has x [] = ⊥
Has x (y ∷ ys) = (x ≡ y) ⊎ Has x ys

has_at : {X : Type 0} (xs : List X) (k : ℕ) (x : X) → k < length xs → get_or xs k x ≡ x → Has x xs
has_at [] k x low e = absurd (omega (arith, low))
has_at (y ∷ ys) zero x low e = inl (sym e)
has_at (y ∷ ys) (suc k) x low e = inr (has_at ys k x (omega arith) e)

contains_from_has : {X : Type 0} (xs : List X) (x : X) → Has x xs → Contains xs x
contains_from_has [] x h = absurd h
contains_from_has (y ∷ ys) x (inl e) = (0, omega arith, sym e)
contains_from_has (y ∷ ys) x (inr h) = let c = contains_from_has ys x h in (suc c.0, omega (arith, c.1), c.2)

module _ {X : Type 0} (p : X → Bool) where
  has_both : (b : Bool) (x y : X) (ys : List X) → Has x (cond b (y ∷ ys) ys) → Has x (y ∷ ys)
  has_both true x y ys h = h
  has_both false x y ys h = inr h

  has_filter-step : (y : X) (ys : List X) (x : X) (b : Bool) → p y ≡ b → Has x (cond b (y ∷ filter p ys) (filter p ys)) → (Has x (filter p ys) → Has x ys × (p x ≡ true)) → Has x (y ∷ ys) × (p x ≡ true)
  has_filter-step y ys x true t (inl e) more = (inl e, ap p e ∙ t)
  has_filter-step y ys x true t (inr h) more = let r = more h in (inr r.0, r.1)
  has_filter-step y ys x false t h more = let r = more h in (inr r.0, r.1)

  has_filter : (xs : List X) (x : X) → Has x (filter p xs) → Has x xs × (p x ≡ true)
  has_filter [] x h = absurd h
  has_filter (y ∷ ys) x h = has_filter-step y ys x (p y) refl h (has_filter ys x)

  filter_has-later : (b : Bool) (x y : X) (ys : List X) → Has x ys → Has x (cond b (y ∷ ys) ys)
  filter_has-later true x y ys h = inr h
  filter_has-later false x y ys h = h

  filter_has : (xs : List X) (x : X) → Has x xs → p x ≡ true → Has x (filter p xs)
  filter_has [] x h t = absurd h
  filter_has (y ∷ ys) x (inl e) t = subst (λ b. Has x (cond b (y ∷ filter p ys) (filter p ys))) (sym t ∙ ap p e) (inl e)
  filter_has (y ∷ ys) x (inr h) t = filter_has-later (p y) x y (filter p ys) (filter_has ys x h t)

  length-filter-step : (b : Bool) (x : X) (l : List X) (n : ℕ) → length l ≡ n → length (cond b (x ∷ l) l) ≡ cond b 1 0 + n
  length-filter-step true x l n e = omega arith
  length-filter-step false x l n e = omega arith

  length-filter : (xs : List X) → length (filter p xs) ≡ sum_by (λ x. cond (p x) 1 0) xs
  length-filter [] = refl
  length-filter (x ∷ xs) = length-filter-step (p x) x (filter p xs) (sum_by (λ x. cond (p x) 1 0) xs) (length-filter xs) ∙ sym (sum_by-cons (λ x. cond (p x) 1 0) x xs)

  same_one : (x y : X) → Has x (y ∷ []) → x ∷ [] ≡ y ∷ []
  same_one x y (inl e) = ap (λ z. z ∷ []) e
  same_one x y (inr h) = absurd h

  same_few : (xs ys : List X) → length xs ≡ length ys → length ys ≤ 1 → ((x : X) → Has x xs → Has x ys) → xs ≡ ys
  same_few [] [] e few h = refl
  same_few [] (y ∷ ys) e few h = absurd (omega (arith, e))
  same_few (x ∷ xs) [] e few h = absurd (omega (arith, e))
  same_few (x ∷ []) (y ∷ []) e few h = same_one x y (h x (inl refl))
  same_few (x ∷ []) (y ∷ z ∷ ys) e few h = absurd (omega (arith, e))
  same_few (x ∷ w ∷ xs) (y ∷ []) e few h = absurd (omega (arith, e))
  same_few (x ∷ w ∷ xs) (y ∷ z ∷ ys) e few h = absurd (omega (arith, few))

  -- what stands at most once in a list is the same in its permutation
  pub filter-permutation : (xs ys : List X) → IsPermutation xs ys → length (filter p xs) ≤ 1 → filter p ys ≡ filter p xs
  filter-permutation xs ys perm few =
      let counts : sum_by (λ x. cond (p x) 1 0) ys ≡ sum_by (λ x. cond (p x) 1 0) xs = sum_by-IsPermutation (λ x. cond (p x) 1 0) xs ys perm in
      let back = IsPermutation-sym xs ys perm in
      same_few (filter p ys) (filter p xs) (length-filter ys ∙ counts ∙ sym (length-filter xs)) few
      (λ x h. let r = has_filter ys x h in let c = Contains-permutation ys xs x back (contains_from_has ys x r.0) in filter_has xs x (has_at xs c.0 x c.1 c.2) r.1)

-- at most one item of a list stands at a key, where the keys rise
module _ {X K : Type 0} {R : K → K → Ordering} (o : IsTotalOrder R) (key : X → K) where
  none_at : (q k : K) (xs : List X) → R q k ≡ Equal → AllByRecursion (λ y. R k y ≡ Less) (map key xs) → filter (λ x. is_eq (R q (key x))) xs ≡ []
  none_at q k [] e all = refl
  none_at q k (x ∷ xs) e all = ap (λ t. cond (is_eq t) (x ∷ filter (λ x. is_eq (R q (key x))) xs) (filter (λ x. is_eq (R q (key x))) xs)) (o.congr q k (key x) e ∙ all.0) ∙ none_at q k xs e all.1

  once_at-step : (q : K) (x : X) (xs : List X) (b : Bool) → is_eq (R q (key x)) ≡ b → AllByRecursion (λ y. R (key x) y ≡ Less) (map key xs) → length (filter (λ x. is_eq (R q (key x))) xs) ≤ 1 → length (cond b (x ∷ filter (λ x. is_eq (R q (key x))) xs) (filter (λ x. is_eq (R q (key x))) xs)) ≤ 1
  once_at-step q x xs true t all more = subst (λ l. length (x ∷ l) ≤ 1) (sym (none_at q (key x) xs (Equal-from (R q (key x)) t) all)) (omega arith)
  once_at-step q x xs false t all more = more

  pub once_at : (q : K) (xs : List X) → IsStrictlySortedBy R (map key xs) → length (filter (λ x. is_eq (R q (key x))) xs) ≤ 1
  unfolding IsStrictlySortedBy
  once_at q [] sorted = omega arith
  once_at q (x ∷ xs) sorted = once_at-step q x xs (is_eq (R q (key x))) refl sorted.0 (once_at q xs sorted.1)
