-- What the nodes of a plan have counted, each of its own writes, is together all that the command has written.
use Rattle.std.proofs.Common.{◌≡◌, ◌<◌, ◌==◌, ℕ, zero, suc, ◌+◌, List, [], ◌∷◌, length, Bool, true, false, refl, sym, subst, ap, ◌∙◌, ◌||◌, ◌&&◌, if◌then◌else◌, arith, eqb}
use Rattle.std.proofs.lemmas.Bool.{eqb-true, or_left, or_right}
use Rattle.std.specs.Prelude.{Contains}
use Rattle.gx_lemmas.proofs.Numbers.{eqb-self, eqb-swap}
use Rattle.gx_lemmas.proofs.Tests.{false-true}
use Rattle.gx_ids.specs.declared.ids.Cid.{Cid}
use Rattle.gx_ids.specs.declared.ids.Gxid.{Gxid}
use Rattle.gx_ids.specs.declared.ids.Node.{Node}
use Rattle.gx_dtx.specs.Nodes.{has}
use Rattle.gx_meaning.specs.declared.piece.Piece.{Piece}
use Rattle.gx_store.specs.declared.mark.Mark.{Mark}
use Rattle.gx_store.specs.declared.mark.Mark.TheVariants as mark
use Rattle.gx_store.specs.Journals.{is_same_node}
use Rattle.gx_store.specs.Marks.{is_command_of, write_count}
use Rattle.gx_rules.specs.AtCoordinator.{nodes_in}
use Rattle.gx_law_order.specs.Lists.{Each}
use Rattle.gx_law_order.specs.Gathering.{AreAll, AreApart, Taken, nodes_taken, total}
use Rattle.gx_law_writes.specs.Says.{count_at}

-- a piece's node is among the pieces'
pub node-among : (pieces : List Piece) (p : Piece) → Contains pieces p → has p.node (nodes_in pieces) ≡ true
node-among [] p c = absurd (none c.0 c.1)
  where
    none : (k : ℕ) → k < 0 → ⊥
    none k l = omega (arith, l)
node-among (q ∷ qs) p (zero, less, is) = or_left (q.node.0 == p.node.0) (has p.node (nodes_in qs)) (ap (λ (x : Piece). x.node.0 == p.node.0) is ∙ eqb-self p.node.0)
node-among (q ∷ qs) p (suc k, less, is) = or_right (q.node.0 == p.node.0) (has p.node (nodes_in qs)) (node-among qs p (k, lower k (length qs) less, is))
  where
    lower : (a b : ℕ) → suc a < suc b → a < b
    lower a b l = omega (arith, l)

-- SUMS OVER THE NODES
abbrev sum_of : (Node → ℕ) → List Taken → ℕ
sum_of f [] = 0
sum_of f (t ∷ ts) = f t.node + sum_of f ts

sum-same : (f h : Node → ℕ) → ((n : Node) → f n ≡ h n) → (ts : List Taken) → sum_of f ts ≡ sum_of h ts
sum-same f h e [] = refl
sum-same f h e (t ∷ ts) = ap (λ n. n + sum_of f ts) (e t.node) ∙ ap (λ n. h t.node + n) (sum-same f h e ts)

-- one more at a node
abbrev bumped : Node → (Node → ℕ) → Node → ℕ
bumped n f i = if is_same_node n i then f i + 1 else f i

not-there : (n : Node) (f : Node → ℕ) (ts : List Taken) → has n (nodes_taken ts) ≡ false → sum_of (bumped n f) ts ≡ sum_of f ts
not-there n f [] e = refl
not-there n f (t ∷ ts) e = by_test (eqb t.node.0 n.0) refl e (λ q. not-there n f ts q)
  where
    by_test : (b : Bool) → eqb t.node.0 n.0 ≡ b → (b || has n (nodes_taken ts)) ≡ false → (has n (nodes_taken ts) ≡ false → sum_of (bumped n f) ts ≡ sum_of f ts) → bumped n f t.node + sum_of (bumped n f) ts ≡ f t.node + sum_of f ts
    by_test true q z more = absurd (false-true (sym z))
    by_test false q z more = ap (λ b. (if b then f t.node + 1 else f t.node) + sum_of (bumped n f) ts) (eqb-swap n.0 t.node.0 ∙ q) ∙ ap (λ k. f t.node + k) (more z)

there-once : (n : Node) (f : Node → ℕ) (ts : List Taken) → AreApart ts → has n (nodes_taken ts) ≡ true → sum_of (bumped n f) ts ≡ sum_of f ts + 1
there-once n f [] a e = absurd (false-true e)
there-once n f (t ∷ ts) a e = by_test (eqb t.node.0 n.0) refl e (λ q. there-once n f ts a.1 q)
  where
    first : (x y : ℕ) → (x + 1) + y ≡ (x + y) + 1
    first x y = omega arith

    later : (x y z : ℕ) → y ≡ z + 1 → x + y ≡ (x + z) + 1
    later x y z e = omega (arith, e)

    same : eqb t.node.0 n.0 ≡ true → t.node ≡ n
    same q = ap (λ k. let r : Node = record { 0 = k } in r) (eqb-true t.node.0 n.0 q)

    by_test : (b : Bool) → eqb t.node.0 n.0 ≡ b → (b || has n (nodes_taken ts)) ≡ true → (has n (nodes_taken ts) ≡ true → sum_of (bumped n f) ts ≡ sum_of f ts + 1) → bumped n f t.node + sum_of (bumped n f) ts ≡ (f t.node + sum_of f ts) + 1
    by_test true q z more =
        ap (λ b. (if b then f t.node + 1 else f t.node) + sum_of (bumped n f) ts) (eqb-swap n.0 t.node.0 ∙ q)
        ∙ ap (λ k. (f t.node + 1) + k) (not-there n f ts (subst (λ i. has i (nodes_taken ts) ≡ false) (same q) a.0))
        ∙ first (f t.node) (sum_of f ts)
    by_test false q z more = ap (λ b. (if b then f t.node + 1 else f t.node) + sum_of (bumped n f) ts) (eqb-swap n.0 t.node.0 ∙ q) ∙ later (f t.node) _ _ (more z)

-- THE COMMAND'S WRITES
module _ (g : Gxid) (c : Cid) (taken : List Taken) (apart : AreApart taken) where
  -- each stands at one of the nodes
  abbrev pub IsAtOne : Mark → Type 0
  IsAtOne (mark.Write h d n t r x) = is_command_of g c h d ≡ true → has n (nodes_taken taken) ≡ true
  IsAtOne _ = Unit {0}

  none : (ts : List Taken) → sum_of (λ n. count_at n g c []) ts ≡ 0
  none [] = refl
  none (t ∷ ts) = plus-none (sum_of (λ n. count_at n g c []) ts) ∙ none ts
    where
      plus-none : (n : ℕ) → 0 + n ≡ n
      plus-none n = omega arith

  sums : (ms : List Mark) → Each IsAtOne ms → sum_of (λ n. count_at n g c ms) taken ≡ write_count ms g c
  sums [] e = none taken
  sums (mark.Write h d n t r x ∷ ms) e = by_test (is_command_of g c h d) refl (sums ms e.1)
    where
      counted : (b : Bool) → is_command_of g c h d ≡ b → (i : Node) → (if is_same_node n i && is_command_of g c h d then count_at i g c ms + 1 else count_at i g c ms) ≡ (if is_same_node n i && b then count_at i g c ms + 1 else count_at i g c ms)
      counted b q i = ap (λ z. if is_same_node n i && z then count_at i g c ms + 1 else count_at i g c ms) q

      with-true : (b : Bool) (k : ℕ) → (if b && true then k + 1 else k) ≡ (if b then k + 1 else k)
      with-true true k = refl
      with-true false k = refl

      with-false : (b : Bool) (k : ℕ) → (if b && false then k + 1 else k) ≡ k
      with-false true k = refl
      with-false false k = refl

      by_test : (b : Bool) → is_command_of g c h d ≡ b → sum_of (λ i. count_at i g c ms) taken ≡ write_count ms g c
          → sum_of (λ i. if is_same_node n i && is_command_of g c h d then count_at i g c ms + 1 else count_at i g c ms) taken ≡ (if is_command_of g c h d then write_count ms g c + 1 else write_count ms g c)
      by_test true q more =
          sum-same _ (bumped n (λ i. count_at i g c ms)) (λ i. counted true q i ∙ with-true (is_same_node n i) (count_at i g c ms)) taken
          ∙ there-once n (λ i. count_at i g c ms) taken apart (e.0 q)
          ∙ ap (λ k. k + 1) more
          ∙ sym (ap (λ z. if z then write_count ms g c + 1 else write_count ms g c) q)
      by_test false q more =
          sum-same _ (λ i. count_at i g c ms) (λ i. counted false q i ∙ with-false (is_same_node n i) (count_at i g c ms)) taken
          ∙ more
          ∙ sym (ap (λ z. if z then write_count ms g c + 1 else write_count ms g c) q)
  sums (m ∷ ms) e = sums ms e.1

  told : (ms : List Mark) (ts : List Taken) → AreAll (λ t. t.count ≡ count_at t.node g c ms) ts → total ts ≡ sum_of (λ n. count_at n g c ms) ts
  told ms [] e = refl
  told ms (t ∷ ts) e = ap (λ n. n + total ts) e.0 ∙ ap (λ n. count_at t.node g c ms + n) (told ms ts e.1)

  pub total-is : (ms : List Mark) → Each IsAtOne ms → AreAll (λ t. t.count ≡ count_at t.node g c ms) taken → total taken ≡ write_count ms g c
  total-is ms at-one e = told ms taken e ∙ sums ms at-one
