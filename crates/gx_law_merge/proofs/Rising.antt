-- Steps that rise by their stamps, and a node's own among them.
use Rattle.std.proofs.Common.{◌≡◌, ◌≤◌, ℕ, List, [], ◌∷◌, ◌++◌, Bool, true, false, cond, refl, ap, arith}
use Rattle.std.proofs.lemmas.Bool.Decides.{nat_tests}
use Rattle.std.specs.Prelude.{map}
use Rattle.std.specs.List.{AllByRecursion}
use Rattle.std.specs.List.Sorted.{IsStrictlySortedBy}
use Rattle.std.specs.Ordering.{nat_cmp, ordering_then}
use Rattle.std.specs.declared.cmp.Ordering.TheVariants.{Less}
use Rattle.gx_ids.specs.declared.ids.Node.{Node}
use Rattle.gx_ids.specs.declared.stamp.Stamp.{Stamp}
use Rattle.gx_store.specs.declared.run.Step.{Step}
use Rattle.gx_store.specs.Journals.{is_same_node}
use Rattle.gx_law_order.specs.Lists.{Each}
use Rattle.gx_law_merge.specs.Merge.{AreRising, own_steps, stamp_order}

-- no clock is below this one
abbrev pub IsFrom : ℕ → Step → Type 0
IsFrom clock s = clock ≤ s.stamp.clock

not-below : (a b x y : ℕ) → ordering_then (nat_cmp a b) (nat_cmp x y) ≡ Less → a ≤ b
not-below a b x y e = grind (arith, nat_tests)

each-later : (a : Stamp) (ss : List Step) → AllByRecursion (λ b. stamp_order a b ≡ Less) (map (λ s. s.stamp) ss) → Each (IsFrom a.clock) ss
each-later a [] e = tt
each-later a (s ∷ ss) e = (not-below a.clock s.stamp.clock a.node.0 s.stamp.node.0 e.0, each-later a ss e.1)

-- what stands behind a step has no lower clock
pub later : (s : Step) (ss : List Step) → AreRising (s ∷ ss) → Each (IsFrom s.stamp.clock) ss
unfolding IsStrictlySortedBy
later s ss r = each-later s.stamp ss r.0

pub rest-rises : (s : Step) (ss : List Step) → AreRising (s ∷ ss) → AreRising ss
unfolding IsStrictlySortedBy
rest-rises s ss r = r.1

pub each-behind : (a : Stamp) (ss : List Step) → AllByRecursion (λ b. stamp_order a b ≡ Less) (map (λ s. s.stamp) ss) → Each (λ b. stamp_order a b.stamp ≡ Less) ss
each-behind a [] e = tt
each-behind a (s ∷ ss) e = (e.0, each-behind a ss e.1)

-- A NODE'S OWN STEPS
pub own-append : (node : Node) (xs ys : List Step) → own_steps node (xs ++ ys) ≡ own_steps node xs ++ own_steps node ys
own-append node [] ys = refl
own-append node (x ∷ xs) ys = by_test (is_same_node x.stamp.node node) (own-append node xs ys)
  where
    by_test : (b : Bool) → own_steps node (xs ++ ys) ≡ own_steps node xs ++ own_steps node ys → cond b (x ∷ own_steps node (xs ++ ys)) (own_steps node (xs ++ ys)) ≡ cond b (x ∷ own_steps node xs) (own_steps node xs) ++ own_steps node ys
    by_test true e = ap (λ zs. x ∷ zs) e
    by_test false e = e

pub own-here : (node : Node) (s : Step) (ss : List Step) → is_same_node s.stamp.node node ≡ true → own_steps node (s ∷ ss) ≡ s ∷ own_steps node ss
own-here node s ss same = ap (λ (b : Bool). cond b (s ∷ own_steps node ss) (own_steps node ss)) same

pub own-there : (node : Node) (s : Step) (ss : List Step) → is_same_node s.stamp.node node ≡ false → own_steps node (s ∷ ss) ≡ own_steps node ss
own-there node s ss away = ap (λ (b : Bool). cond b (s ∷ own_steps node ss) (own_steps node ss)) away
