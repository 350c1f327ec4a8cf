-- The first items in an order, with one item more each time: what is put behind those that it isn't below.
use Rattle.std.proofs.Common.{ℕ, zero, suc, ◌≤◌, ◌≡◌, ◌∙◌, Bool, true, false, cond, List, [], ◌∷◌, ◌++◌, ◌+◌, ◌<◌, take, drop, length, get_or, append_assoc, refl, ap, sym, subst, arith}
use Rattle.std.specs.Cmp.{IsTotalOrder}
use Rattle.std.specs.List.{AllByRecursion, insert}
use Rattle.std.specs.Ordering.{is_gt}
use Rattle.std.specs.declared.cmp.Ordering.{Ordering}
use Rattle.std.proofs.lemmas.Cmp.{upto}
use Rattle.gx_meaning.specs.Order.{in_order, placed}
use Rattle.gx_gather.specs.First.{behind}
use Rattle.gx_gather.proofs.InOrder.{Rises, not_above-reverse, rises_in_order}
use Rattle.gx_gather.proofs.Steps.{drop_next, take_next}

-- ---- a list that is cut
take-less : {X : Type 0} (n : ℕ) (ys : List X) → take n ys ≡ take n (take (suc n) ys)
take-less zero ys = refl
take-less (suc n) [] = refl
take-less (suc n) (y ∷ ys) = ap (λ l. y ∷ l) (take-less n ys)

take-front : {X : Type 0} (n : ℕ) (y : X) (ys : List X) → take n (y ∷ ys) ≡ take n (y ∷ take n ys)
take-front zero y ys = refl
take-front (suc n) y ys = ap (λ l. y ∷ l) (take-less n ys)

take-twice : {X : Type 0} (n : ℕ) (ys : List X) → take n (take n ys) ≡ take n ys
take-twice zero ys = refl
take-twice (suc n) [] = refl
take-twice (suc n) (y ∷ ys) = ap (λ l. y ∷ l) (take-twice n ys)

-- what is put in past the cut isn't seen
take-insert : {X : Type 0} (n p : ℕ) (x : X) (ys : List X) → n ≤ p → p ≤ length ys → take n (insert ys p x) ≡ take n ys
take-insert zero p x ys past within = refl
take-insert (suc n) zero x ys past within = absurd (omega (arith, past))
take-insert (suc n) (suc p) x [] past within = absurd (omega (arith, within))
take-insert (suc n) (suc p) x (y ∷ ys) past within = ap (λ l. y ∷ l) (take-insert n p x ys (omega (arith, past)) (omega (arith, within)))

module _ {X : Type 0} (R : X → X → Ordering) where
  take-behind-step : (n : ℕ) (x y : X) (ys : List X) (b : Bool) → take n (behind R x ys) ≡ take n (behind R x (take n ys)) → take (suc n) (cond b (x ∷ y ∷ ys) (y ∷ behind R x ys)) ≡ take (suc n) (cond b (x ∷ y ∷ take n ys) (y ∷ behind R x (take n ys)))
  take-behind-step n x y ys true more = ap (λ l. x ∷ l) (take-front n y ys)
  take-behind-step n x y ys false more = ap (λ l. y ∷ l) more

  take-behind : (n : ℕ) (x : X) (ys : List X) → take n (behind R x ys) ≡ take n (behind R x (take n ys))
  take-behind zero x ys = refl
  take-behind (suc n) x [] = refl
  take-behind (suc n) x (y ∷ ys) = take-behind-step n x y ys (is_gt (R y x)) (take-behind n x ys)

  -- an item that is above x comes behind it
  behind-above-step : (x y z : X) (zs : List X) (b : Bool) → behind R x (zs ++ y ∷ []) ≡ behind R x zs ++ y ∷ [] → cond b (x ∷ z ∷ zs ++ y ∷ []) (z ∷ behind R x (zs ++ y ∷ [])) ≡ cond b (x ∷ z ∷ zs) (z ∷ behind R x zs) ++ y ∷ []
  behind-above-step x y z zs true more = refl
  behind-above-step x y z zs false more = ap (λ l. z ∷ l) more

  pub behind-above : (x y : X) (zs : List X) → is_gt (R y x) ≡ true → behind R x (zs ++ y ∷ []) ≡ behind R x zs ++ y ∷ []
  behind-above x y [] above = ap (λ b. cond b (x ∷ y ∷ []) (y ∷ x ∷ [])) above
  behind-above x y (z ∷ zs) above = behind-above-step x y z zs (is_gt (R z x)) (behind-above x y zs above)

  -- a look from the end: the item at the place is above x
  pub look-on : (q p : ℕ) (ys : List X) (x y : X) → q < length ys → y ≡ get_or ys q y → p ≡ q + 1 → is_gt (R y x) ≡ true → behind R x (take p ys) ++ drop p ys ≡ behind R x ys → behind R x (take q ys) ++ drop q ys ≡ behind R x ys
  look-on q p ys x y low is next above before =
      ap (λ l. behind R x (take q ys) ++ l) (drop_next ys q y low is)
      ∙ sym (append_assoc (behind R x (take q ys)) (y ∷ []) (drop (q + 1) ys))
      ∙ ap (λ l. l ++ drop (q + 1) ys) (sym (behind-above x y (take q ys) above) ∙ ap (behind R x) (sym (take_next ys q y low is)))
      ∙ ap (λ n. behind R x (take n ys) ++ drop n ys) (sym next)
      ∙ before

module _ {X : Type 0} {R : X → X → Ordering} (o : IsTotalOrder R) where
  above : (x y : X) → is_gt (R x y) ≡ true → is_gt (R y x) ≡ false
  above x y up = ap is_gt (o.antisymm y x) ∙ not_above-reverse (R x y) up

  -- ---- an item put in from the front, and one from the end
  both-step : (x y z : X) (zs : List X) (a b c : Bool) → is_gt (R z x) ≡ a → is_gt (R y z) ≡ b → is_gt (R y x) ≡ c → placed R y (behind R x zs) ≡ behind R x (placed R y zs)
      → placed R y (cond a (x ∷ z ∷ zs) (z ∷ behind R x zs)) ≡ behind R x (cond b (z ∷ placed R y zs) (y ∷ z ∷ zs))
  both-step x y z zs true true true zx yz yx more =
      ap (λ t. cond t (x ∷ placed R y (z ∷ zs)) (y ∷ x ∷ z ∷ zs)) yx
      ∙ ap (λ t. x ∷ cond t (z ∷ placed R y zs) (y ∷ z ∷ zs)) yz
      ∙ sym (ap (λ t. cond t (x ∷ z ∷ placed R y zs) (z ∷ behind R x (placed R y zs))) zx)
  both-step x y z zs true true false zx yz yx more = let e : true ≡ false = sym yz ∙ upto o y x z yx (above z x zx) in cc
  both-step x y z zs true false true zx yz yx more =
      ap (λ t. cond t (x ∷ placed R y (z ∷ zs)) (y ∷ x ∷ z ∷ zs)) yx
      ∙ ap (λ t. x ∷ cond t (z ∷ placed R y zs) (y ∷ z ∷ zs)) yz
      ∙ sym (ap (λ t. cond t (x ∷ y ∷ z ∷ zs) (y ∷ behind R x (z ∷ zs))) yx)
  both-step x y z zs true false false zx yz yx more =
      ap (λ t. cond t (x ∷ placed R y (z ∷ zs)) (y ∷ x ∷ z ∷ zs)) yx
      ∙ sym (ap (λ t. cond t (x ∷ y ∷ z ∷ zs) (y ∷ behind R x (z ∷ zs))) yx ∙ ap (λ t. y ∷ cond t (x ∷ z ∷ zs) (z ∷ behind R x zs)) zx)
  both-step x y z zs false true c zx yz yx more =
      ap (λ t. cond t (z ∷ placed R y (behind R x zs)) (y ∷ z ∷ behind R x zs)) yz
      ∙ ap (λ l. z ∷ l) more
      ∙ sym (ap (λ t. cond t (x ∷ z ∷ placed R y zs) (z ∷ behind R x (placed R y zs))) zx)
  both-step x y z zs false false true zx yz yx more = let e : true ≡ false = sym yx ∙ upto o y z x yz zx in cc
  both-step x y z zs false false false zx yz yx more =
      ap (λ t. cond t (z ∷ placed R y (behind R x zs)) (y ∷ z ∷ behind R x zs)) yz
      ∙ sym (ap (λ t. cond t (x ∷ y ∷ z ∷ zs) (y ∷ behind R x (z ∷ zs))) yx ∙ ap (λ t. y ∷ cond t (x ∷ z ∷ zs) (z ∷ behind R x zs)) zx)

  both : (x y : X) (zs : List X) → placed R y (behind R x zs) ≡ behind R x (placed R y zs)
  both x y [] = refl
  both x y (z ∷ zs) = both-step x y z zs (is_gt (R z x)) (is_gt (R y z)) (is_gt (R y x)) refl refl refl (both x y zs)

  in_order-last : (xs : List X) (x : X) → in_order R (xs ++ x ∷ []) ≡ behind R x (in_order R xs)
  in_order-last [] x = refl
  in_order-last (y ∷ xs) x = ap (placed R y) (in_order-last xs x) ∙ both x y (in_order R xs)

  -- ---- the place from the end
  all-last : (P : X → Type 0) (zs : List X) (y : X) → AllByRecursion P (zs ++ y ∷ []) → P y
  all-last P [] y all = all.0
  all-last P (z ∷ zs) y all = all-last P zs y all.1

  pub behind-all : (x y : X) (zs : List X) → Rises o (zs ++ y ∷ []) → is_gt (R y x) ≡ false → behind R x (zs ++ y ∷ []) ≡ (zs ++ y ∷ []) ++ x ∷ []
  behind-all x y [] up below = ap (λ b. cond b (x ∷ y ∷ []) (y ∷ x ∷ [])) below
  behind-all x y (z ∷ zs) up below =
      ap (λ b. cond b (x ∷ z ∷ zs ++ y ∷ []) (z ∷ behind R x (zs ++ y ∷ []))) (upto o z y x (all-last (λ w. is_gt (R z w) ≡ false) zs y up.0) below)
      ∙ ap (λ l. z ∷ l) (behind-all x y zs up.1 below)

  all-take : (P : X → Type 0) (n : ℕ) (xs : List X) → AllByRecursion P xs → AllByRecursion P (take n xs)
  all-take P zero xs all = tt
  all-take P (suc n) [] all = tt
  all-take P (suc n) (x ∷ xs) all = (all.0, all-take P n xs all.1)

  pub rises-take : (n : ℕ) (xs : List X) → Rises o xs → Rises o (take n xs)
  rises-take zero xs up = tt
  rises-take (suc n) [] up = tt
  rises-take (suc n) (x ∷ xs) up = (all-take (λ y. is_gt (R x y) ≡ false) n xs up.0, rises-take n xs up.1)

  pub rises-first : (n : ℕ) (xs : List X) (ys : List X) → ys ≡ take n (in_order R xs) → Rises o ys
  rises-first n xs ys is = subst (Rises o) (sym is) (rises-take n (in_order R xs) (rises_in_order o xs))

  -- the item at the place isn't above x, so x stands behind it
  pub look-ends : (q p : ℕ) (ys : List X) (x y : X) → q < length ys → y ≡ get_or ys q y → p ≡ q + 1 → is_gt (R y x) ≡ false → Rises o ys → behind R x (take p ys) ++ drop p ys ≡ behind R x ys → insert ys p x ≡ behind R x ys
  look-ends q p ys x y low is next below up before =
      let front : take p ys ≡ take q ys ++ y ∷ [] = ap (λ n. take n ys) next ∙ take_next ys q y low is in
      let all : behind R x (take p ys) ≡ take p ys ++ x ∷ [] =
      ap (behind R x) front ∙ behind-all x y (take q ys) (subst (Rises o) front (rises-take p ys up)) below ∙ ap (λ l. l ++ x ∷ []) (sym front) in
      sym (ap (λ l. l ++ drop p ys) all ∙ append_assoc (take p ys) (x ∷ []) (drop p ys)) ∙ before

  -- ---- one item more
  -- the item is put in, and the list cut
  pub first-put : (n : ℕ) (xs ys now : List X) (x : X) (p : ℕ) → ys ≡ take n (in_order R xs) → insert ys p x ≡ behind R x ys → now ≡ take n (insert ys p x) → now ≡ take n (in_order R (xs ++ x ∷ []))
  first-put n xs ys now x p is put cut =
      cut ∙ ap (take n) (put ∙ ap (behind R x) is) ∙ sym (take-behind R n x (in_order R xs)) ∙ ap (take n) (sym (in_order-last xs x))

  -- the item's place is past the cut
  pub first-past : (n : ℕ) (xs ys : List X) (x : X) (p : ℕ) → ys ≡ take n (in_order R xs) → insert ys p x ≡ behind R x ys → n ≤ p → p ≤ length ys → ys ≡ take n (in_order R (xs ++ x ∷ []))
  first-past n xs ys x p is put past within =
      first-put n xs ys ys x p is put (is ∙ sym (take-twice n (in_order R xs)) ∙ ap (take n) (sym is) ∙ sym (take-insert n p x ys past within))
