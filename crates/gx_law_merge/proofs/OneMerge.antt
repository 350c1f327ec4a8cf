-- A merge is one: steps that rise and are the same at each node are the same.
use Rattle.std.proofs.Common.{◌≡◌, ◌≢◌, ◌⊎◌, inl, inr, ℕ, zero, suc, List, [], ◌∷◌, ◌++◌, Bool, true, false, cond, refl, sym, subst, ap, ◌∙◌, arith, ◌<◌, ◌≤◌, Some, None, IfSome, length}
use Rattle.std.proofs.lemmas.Bool.Decides.{eqb_tells, nat_tests}
use Rattle.std.specs.Prelude.{◌==◌, eqb, filter, map, slice_get}
use Rattle.std.specs.List.{AllByRecursion}
use Rattle.std.specs.List.Sorted.{IsStrictlySortedBy}
use Rattle.std.specs.Ordering.{nat_cmp, ordering_then}
use Rattle.std.specs.declared.cmp.Ordering.TheVariants.{Less}
use Rattle.gx_ids.specs.declared.ids.Node.{Node}
use Rattle.gx_store.specs.declared.run.Step.{Step}
use Rattle.gx_store.specs.Journals.{is_same_node}
use Rattle.gx_law_order.specs.Lists.{Each}
use Rattle.gx_law_merge.specs.Merge.{AreRising, IsMergeOf, own_steps, stamp_order}
use Rattle.gx_law_merge.proofs.Rising.{each-behind, rest-rises}

abbrev IsBefore : Step → Step → Type 0
IsBefore a b = stamp_order a.stamp b.stamp ≡ Less

-- no two come before each other
not-both : (a b x y : ℕ) → ordering_then (nat_cmp a b) (nat_cmp x y) ≡ Less → ordering_then (nat_cmp b a) (nat_cmp y x) ≡ Less → ⊥
not-both a b x y e f = grind (arith, nat_tests)

itself : (n : ℕ) → (n == n) ≡ true
itself n = grind (arith, nat_tests)

own-first : (x : Step) (xs : List Step) → own_steps x.stamp.node (x ∷ xs) ≡ x ∷ own_steps x.stamp.node xs
own-first x xs = ap (λ (b : Bool). cond b (x ∷ own_steps x.stamp.node xs) (own_steps x.stamp.node xs)) (itself x.stamp.node.0)

nothing : (x : Step) (xs : List Step) → [] ≡ x ∷ xs → ⊥
nothing x xs e = omega (arith, ap length e)

head : (x y : Step) (xs ys : List Step) → x ∷ xs ≡ y ∷ ys → x ≡ y
head x y xs ys e = search

-- what stands first among a node's own steps stands among all
own-of : (P : Step → Type 0) (node : Node) (xs ys : List Step) (y : Step) → Each P xs → own_steps node xs ≡ y ∷ ys → P y
own-of P node [] ys y e is = absurd (nothing y ys is)
own-of P node (x ∷ xs) ys y e is = by_test (λ is. own-of P node xs ys y e.1 is) (is_same_node x.stamp.node node) is
  where
    by_test : (own_steps node xs ≡ y ∷ ys → P y) → (b : Bool) → cond b (x ∷ own_steps node xs) (own_steps node xs) ≡ y ∷ ys → P y
    by_test rest true is = subst P (head x y (own_steps node xs) ys is) e.0
    by_test rest false is = rest is

abbrev AreAlike : List Step → List Step → Type 0
AreAlike xs ys = (node : Node) → own_steps node xs ≡ own_steps node ys

module _ (x : Step) (xs : List Step) (y : Step) (ys : List Step) (alike : AreAlike (x ∷ xs) (y ∷ ys)) where
  own-x : own_steps x.stamp.node (y ∷ ys) ≡ x ∷ own_steps x.stamp.node xs
  own-x = sym (alike x.stamp.node) ∙ own-first x xs

  own-y : own_steps y.stamp.node (x ∷ xs) ≡ y ∷ own_steps y.stamp.node ys
  own-y = alike y.stamp.node ∙ own-first y ys

  same-first : AreRising (x ∷ xs) → AreRising (y ∷ ys) → x ≡ y
  unfolding IsStrictlySortedBy
  same-first r s = by_case (eqb_tells y.stamp.node.0 x.stamp.node.0)
    where
      by_case : ((eqb y.stamp.node.0 x.stamp.node.0 ≡ true) × (y.stamp.node.0 ≡ x.stamp.node.0)) ⊎ ((eqb y.stamp.node.0 x.stamp.node.0 ≡ false) × (y.stamp.node.0 ≢ x.stamp.node.0)) → x ≡ y
      by_case (inl same) = head x y (own_steps x.stamp.node xs) (own_steps x.stamp.node ys) (sym own-x ∙ ap (λ (b : Bool). cond b (y ∷ own_steps x.stamp.node ys) (own_steps x.stamp.node ys)) same.0)
      by_case (inr other) =
          absurd (not-both x.stamp.clock y.stamp.clock x.stamp.node.0 y.stamp.node.0
          (own-of (IsBefore x) y.stamp.node xs (own_steps y.stamp.node ys) y (each-behind x.stamp xs r.0) (sym (ap (λ (b : Bool). cond b (x ∷ own_steps y.stamp.node xs) (own_steps y.stamp.node xs)) (flip x.stamp.node.0 y.stamp.node.0 other.1)) ∙ own-y))
          (own-of (IsBefore y) x.stamp.node ys (own_steps x.stamp.node xs) x (each-behind y.stamp ys s.0) (sym (ap (λ (b : Bool). cond b (y ∷ own_steps x.stamp.node ys) (own_steps x.stamp.node ys)) other.0) ∙ own-x)))
        where
          flip : (m n : ℕ) → n ≢ m → (m == n) ≡ false
          flip m n other = grind (arith, nat_tests)

alike-rest : (x : Step) (xs ys : List Step) → AreAlike (x ∷ xs) (x ∷ ys) → AreAlike xs ys
alike-rest x xs ys alike node = by_test (is_same_node x.stamp.node node) (alike node)
  where
    by_test : (b : Bool) → cond b (x ∷ own_steps node xs) (own_steps node xs) ≡ cond b (x ∷ own_steps node ys) (own_steps node ys) → own_steps node xs ≡ own_steps node ys
    by_test true e = search
    by_test false e = e

alike-one : (xs ys : List Step) → AreRising xs → AreRising ys → AreAlike xs ys → xs ≡ ys
alike-one [] [] r s alike = refl
alike-one [] (y ∷ ys) r s alike = absurd (nothing y (own_steps y.stamp.node ys) (alike y.stamp.node ∙ own-first y ys))
alike-one (x ∷ xs) [] r s alike = absurd (nothing x (own_steps x.stamp.node xs) (sym (alike x.stamp.node) ∙ own-first x xs))
alike-one (x ∷ xs) (y ∷ ys) r s alike =
    ap (λ zs. x ∷ zs) (alike-one xs ys (rest-rises x xs r) (rest-rises y ys s) (alike-rest x xs ys (subst (λ z. AreAlike (x ∷ xs) (z ∷ ys)) (sym same) alike))) ∙ ap (λ z. z ∷ ys) same
  where
    same : x ≡ y
    same = same-first x xs y ys alike r s

pub merge-one : (histories : List (List Step)) (xs ys : List Step) → IsMergeOf histories xs → IsMergeOf histories ys → xs ≡ ys
merge-one histories xs ys a b = alike-one xs ys a.rising b.rising (λ node. a.own node ∙ sym (b.own node))
