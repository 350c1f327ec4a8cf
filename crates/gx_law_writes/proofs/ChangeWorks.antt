-- What a turn of an UPDATE or DELETE does to rows.
use Rattle.std.proofs.Common.{◌≡◌, ◌≤◌, ◌<◌, inl, inr, ℕ, ◌+◌, List, [], ◌∷◌, ◌++◌, Bool, true, false, refl, sym, subst, ap, ◌∙◌, arith, eqb}
use Rattle.std.proofs.lemmas.Bool.{eqb-true}
use Rattle.gx_ids.specs.declared.ids.Cid.{Cid}
use Rattle.gx_ids.specs.declared.ids.Gxid.{Gxid}
use Rattle.gx_ids.specs.declared.ids.Node.{Node}
use Rattle.gx_ids.specs.declared.ids.Table.{Table}
use Rattle.gx_store.specs.declared.mark.Mark.{Mark}
use Rattle.gx_store.specs.declared.mark.Mark.TheVariants as mark
use Rattle.gx_rules.specs.Segments.{Local, Seg, SegTurn, Version, after_marks, local_of}
use Rattle.gx_law_order.proofs.Lists.{each_append, each_weaker}
use Rattle.gx_law_order.specs.Lists.{Each}
use Rattle.gx_law_order.specs.Standings.{gx}
use Rattle.gx_law_writes.proofs.Frames.{IsWork}
use Rattle.gx_law_writes.proofs.Half.{IsHalf}
use Rattle.gx_law_writes.proofs.Points.{IsOfHere}
use Rattle.gx_law_writes.proofs.Undone.{undone}
use Rattle.gx_law_writes.proofs.Worked.{TurnWork}
use Rattle.gx_law_writes.proofs.Next.{next_command}
use Rattle.gx_law_writes.proofs.Turns.{NoWrite}
use Rattle.gx_law_writes.proofs.Works.{IsFrom, IsIts, Works, no-write-from, no-write-its}

each-both : {A : Type 0} (P Q R : A → Type 0) → ((x : A) → P x → Q x → R x) → (xs : List A) → Each P xs → Each Q xs → Each R xs
each-both P Q R f [] e h = tt
each-both P Q R f (x ∷ xs) e h = (f x e.0 h.0, each-both P Q R f xs e.1 h.1)

same-le : {a b : ℕ} → b ≡ a → a ≤ b
same-le e = omega arith

le-same : {a b c : ℕ} → a ≤ b → c ≡ b → a ≤ c
le-same l e = omega arith

last-one : {a b : ℕ} → b ≡ a + 1 → a < b
last-one e = omega arith

-- its marks, where the rows that it skips stand there
pub work-its : (all : List Mark) (node there : Node) (g : Gxid) (c : Cid) (first : ℕ) → there ≡ node → first ≡ c.0 + 1 → (m : Mark) → IsWork there g c m → IsOfHere node all m → IsIts all node g first m
work-its all node there g c first same next (mark.Write h d n t r x) e here = (e.0, subst (λ (z : Cid). z.0 < first) (sym e.1) (last-one next), e.2 ∙ same)
work-its all node there g c first same next (mark.Skip h d r) e here = (e.0, subst (λ (z : Cid). z.0 < first) (sym e.1) (last-one next), here)
work-its all node there g c first same next m e here = tt

module _ (ms : List Mark) (node : Node) (s : Seg) (g : Gxid) (c : Cid) (table : Table) (b : Seg) (named : b.node ≡ node) (versions : b.versions ≡ s.versions) (others : (h : ℕ) → eqb h g.0 ≡ false → b.locals h ≡ s.locals h) (upto : undone (s.locals g.0) ≤ c.0 + 1) (starts : next_command (s.locals g.0) ≤ c.0) (pre : List Mark) (silent : Each NoWrite pre)
    (t : SegTurn) (work : TurnWork b g c table t) (here : Each (IsOfHere node (ms ++ (pre ++ t.marks))) t.marks) (half : IsHalf (ms ++ (pre ++ t.marks)) t.seg.versions node g (local_of t.seg g).suspended) where
  abbrev all : List Mark
  all = ms ++ (pre ++ t.marks)

  away : (h : ℕ) → eqb h g.0 ≡ false → t.seg.locals h ≡ s.locals h
  away h q = work.others (gx h) q ∙ others h q

  rises : (h : ℕ) → undone (s.locals h) ≤ undone (t.seg.locals h)
  rises h = by_test (eqb h g.0) refl
    where
      by_test : (q : Bool) → eqb h g.0 ≡ q → undone (s.locals h) ≤ undone (t.seg.locals h)
      by_test true q = subst (λ j. undone (s.locals j) ≤ undone (t.seg.locals j)) (sym (eqb-true h g.0 q)) (le-same upto work.leaves)
      by_test false q = same-le (ap undone (away h q))

  work-from : (m : Mark) → IsWork b.node g c m → IsFrom (next_command (s.locals g.0)) m
  work-from (mark.Write h d n t r z) e = subst (λ (k : Cid). next_command (s.locals g.0) ≤ k.0) (sym e.1) starts
  work-from m e = tt

  pub change-works : Works ms node s (after_marks pre t)
  change-works =
      record {
        actor = g;
        rises = rises;
        marks = each_append (IsIts all node g (undone (t.seg.locals g.0))) pre t.marks (each_weaker NoWrite (IsIts all node g (undone (t.seg.locals g.0))) (λ m e. no-write-its all node g (undone (t.seg.locals g.0)) m e) pre silent)
            (each-both (IsWork b.node g c) (IsOfHere node all) (IsIts all node g (undone (t.seg.locals g.0))) (λ m e k. work-its all node b.node g c (undone (t.seg.locals g.0)) named work.leaves m e k) t.marks work.work here);
        starts = each_append (IsFrom (next_command (s.locals g.0))) pre t.marks (each_weaker NoWrite (IsFrom (next_command (s.locals g.0))) (no-write-from (next_command (s.locals g.0))) pre silent)
            (each_weaker (IsWork b.node g c) (IsFrom (next_command (s.locals g.0))) work-from t.marks work.work);
        own = work.added.own;
        versions = work.added.is ∙ ap (λ vs. vs ++ work.added.own) versions;
        mine = each_weaker (λ (v : Version). (v.gxid ≡ g) × (v.cid ≡ c) × (v.table ≡ table)) (λ (v : Version). v.gxid ≡ g) (λ v e. e.0) work.added.own work.added.mine;
        others = λ h q. inl (ap (λ (l : Local). l.suspended) (away h q));
        its = inr half;
      }
