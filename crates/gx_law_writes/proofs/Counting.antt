-- How many rows a command has written at a node, once it has run there: none comes behind.
use Rattle.std.proofs.Common.{◌≡◌, ◌≤◌, ◌<◌, ℕ, ◌+◌, List, [], ◌∷◌, ◌++◌, Bool, true, false, refl, sym, subst, ap, ◌∙◌, if◌then◌else◌, ◌&&◌, arith, eqb}
use Rattle.std.proofs.lemmas.Bool.{eqb-true}
use Rattle.gx_lemmas.proofs.Tests.{and-first, and-second}
use Rattle.gx_ids.specs.declared.ids.Cid.{Cid}
use Rattle.gx_ids.specs.declared.ids.Gxid.{Gxid}
use Rattle.gx_ids.specs.declared.ids.Node.{Node}
use Rattle.gx_store.specs.declared.mark.Mark.{Mark}
use Rattle.gx_store.specs.declared.mark.Mark.TheVariants as mark
use Rattle.gx_store.specs.Journals.{is_same_node}
use Rattle.gx_store.specs.Marks.{is_command_of}
use Rattle.gx_law_order.specs.Lists.{Each}
use Rattle.gx_law_order.specs.Standings.{at}
use Rattle.gx_law_writes.specs.Says.{count_at}
use Rattle.gx_law_writes.proofs.Turns.{NoWrite}
use Rattle.gx_law_writes.proofs.Works.{IsFrom, IsIts}

one-more : (n a b : ℕ) → n ≡ a + b → n + 1 ≡ (a + 1) + b
one-more n a b e = omega arith

pub count-append : (node : Node) (g : Gxid) (c : Cid) (xs ys : List Mark) → count_at node g c (xs ++ ys) ≡ count_at node g c xs + count_at node g c ys
count-append node g c [] ys = none (count_at node g c ys)
  where
    none : (n : ℕ) → n ≡ 0 + n
    none n = omega arith
count-append node g c (mark.Write h d n t r x ∷ xs) ys = by_test (is_same_node n node && is_command_of g c h d) (count-append node g c xs ys)
  where
    by_test : (b : Bool) → count_at node g c (xs ++ ys) ≡ count_at node g c xs + count_at node g c ys
        → (if b then count_at node g c (xs ++ ys) + 1 else count_at node g c (xs ++ ys)) ≡ (if b then count_at node g c xs + 1 else count_at node g c xs) + count_at node g c ys
    by_test true e = one-more (count_at node g c (xs ++ ys)) (count_at node g c xs) (count_at node g c ys) e
    by_test false e = e
count-append node g c (m ∷ xs) ys = count-append node g c xs ys

pub no-write-count : (node : Node) (g : Gxid) (c : Cid) (ms : List Mark) → Each NoWrite ms → count_at node g c ms ≡ 0
no-write-count node g c [] e = refl
no-write-count node g c (mark.Write h d n t r x ∷ ms) e = absurd e.0
no-write-count node g c (m ∷ ms) e = no-write-count node g c ms e.1

beyond : (a b : ℕ) → a ≤ b → b < a → ⊥
beyond a b l m = omega arith

-- the marks of a turn at a node, of a transaction whose commands from a number on have still to run there
module _ (all : List Mark) (i : ℕ) (actor : Gxid) (first : ℕ) (nexts : ℕ → ℕ → ℕ) (node : Node) (g : Gxid) (c : Cid) (ran : c.0 < nexts node.0 g.0) where
  clash : (h : Gxid) (d : Cid) (n : Node) → h ≡ actor → n ≡ at i → nexts i actor.0 ≤ d.0 → is_same_node n node ≡ true → is_command_of g c h d ≡ true → ⊥
  clash h d n e f low p q =
      let there : i ≡ node.0 = ap (λ (k : Node). k.0) (sym f) ∙ eqb-true n.0 node.0 p in
      let own : actor.0 ≡ g.0 = ap (λ (k : Gxid). k.0) (sym e) ∙ eqb-true h.0 g.0 (and-first (eqb h.0 g.0) (eqb d.0 c.0) q) in
      beyond (nexts node.0 g.0) c.0
      (subst (λ j. nexts j g.0 ≤ c.0) there (subst (λ j. nexts i j ≤ c.0) own (subst (λ j. nexts i actor.0 ≤ j) (eqb-true d.0 c.0 (and-second (eqb h.0 g.0) (eqb d.0 c.0) q)) low))) ran

  pub none-counted : (ms : List Mark) → Each (IsIts all (at i) actor first) ms → Each (IsFrom (nexts i actor.0)) ms → count_at node g c ms ≡ 0
  none-counted [] e f = refl
  none-counted (mark.Write h d n t r x ∷ ms) e f = ap (λ b. if b then count_at node g c ms + 1 else count_at node g c ms) (neither (is_same_node n node) (is_command_of g c h d) (λ p q. clash h d n e.0.0 e.0.2 f.0 p q)) ∙ none-counted ms e.1 f.1
    where
      neither : (a b : Bool) → (a ≡ true → b ≡ true → ⊥) → (a && b) ≡ false
      neither true true k = absurd (k refl refl)
      neither true false k = refl
      neither false b k = refl
  none-counted (m ∷ ms) e f = none-counted ms e.1 f.1
