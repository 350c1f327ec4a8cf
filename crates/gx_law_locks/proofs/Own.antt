-- Whoever has written at a segment holds its own lock there until it has ended there.
use Rattle.std.proofs.Common.{◌≡◌, ◌≤◌, ℕ, List, [], ◌∷◌, ◌++◌, Bool, true, false, refl, sym, subst, if◌then◌else◌, eqb, append_assoc, append-nil}
use Rattle.std.proofs.lemmas.Bool.{eqb-true}
use Rattle.std.proofs.lemmas.List.Elements.{All-head, All-tail}
use Rattle.std.specs.Prelude.{All}
use Rattle.gx_lemmas.proofs.Numbers.{eqb-self, one-le-none}
use Rattle.gx_ids.specs.declared.ids.Gxid.{Gxid}
use Rattle.gx_ids.specs.declared.ids.Node.{Node}
use Rattle.gx_script.specs.declared.Script.{Script}
use Rattle.gx_store.specs.declared.mark.Mark.{Mark}
use Rattle.gx_store.specs.declared.mark.Mark.TheVariants as mark
use Rattle.gx_store.specs.declared.run.Step.{Step}
use Rattle.gx_store.specs.Locks.{HoldOwn}
use Rattle.gx_store.specs.Ordered.{AreOrdered, IsAtNode}
use Rattle.gx_store.specs.Points.{marks_in}
use Rattle.gx_store.specs.Refusals.{the_coordinator}
use Rattle.gx_store.specs.Waits.{holds_at}
use Rattle.gx_rules.specs.Maps.{with_at}
use Rattle.gx_rules.specs.Segments.{Seg, has_ended, local_of}
use Rattle.gx_rules.specs.Slices.{own_lock}
use Rattle.gx_law_order.proofs.Lists.{each_weaker}
use Rattle.gx_law_order.specs.Lists.{Each}
use Rattle.gx_law_order.proofs.Sent.{at}
use Rattle.gx_law_locks.specs.Own.{DoHoldOwn}
use Rattle.gx_law_locks.proofs.HoldsAtSegments.{Lasts}
use Rattle.gx_law_locks.proofs.Lasting.{IsIn}
use Rattle.gx_law_locks.proofs.Moves.{WritesOwn, own-lasts}

-- IN A STEP
pub hold-own : (script : Script) (node : Node) (after marks ms : List Mark) → Each (IsAtNode script node) ms → Each (WritesOwn (holds_at after node)) ms → HoldOwn marks after ms
hold-own script node after marks [] e f = tt
hold-own script node after marks (mark.Write g c n table rid image ∷ ms) e f =
    (λ run. subst (λ (k : Node). IsIn (holds_at after k) (own_lock g)) (sym e.0.0) f.0, hold-own script node after (marks ++ mark.Write g c n table rid image ∷ []) ms e.1 f.1)
hold-own script node after marks (m ∷ ms) e f = hold-own script node after (marks ++ m ∷ []) ms e.1 f.1

-- one step more
pub own-last : (before ss : List Step) (s : Step) → DoHoldOwn before ss → HoldOwn (marks_in (before ++ ss)) (marks_in (before ++ ss) ++ s.marks) s.marks → DoHoldOwn before (ss ++ s ∷ [])
own-last before [] s e f = (subst (λ (b : List Step). HoldOwn (marks_in b) (marks_in b ++ s.marks) s.marks) (append-nil before) f, tt)
own-last before (x ∷ ss) s e f =
    (e.0, own-last (before ++ x ∷ []) ss s e.1 (subst (λ (b : List Step). HoldOwn (marks_in b) (marks_in b ++ s.marks) s.marks) (sym (append_assoc before (x ∷ []) ss)) f))

-- more marks of the coordinator in its last step, which has written nothing
pub no-own : (script : Script) (marks after ms : List Mark) → Each (IsAtNode script the_coordinator) ms → HoldOwn marks after ms
no-own script marks after [] e = tt
no-own script marks after (mark.Write g c n table rid image ∷ ms) e = absurd (one-le-none e.0.1.0)
no-own script marks after (m ∷ ms) e = no-own script (marks ++ m ∷ []) after ms e.1

pub own-more : (script : Script) (done ss : List Step) (s : Step) (ms : List Mark) → DoHoldOwn done (ss ++ s ∷ []) → Each (IsAtNode script the_coordinator) (s.marks ++ ms) → DoHoldOwn done (ss ++ record s { marks = s.marks ++ ms } ∷ [])
own-more script done [] s ms e f = (no-own script (marks_in done) (marks_in done ++ (s.marks ++ ms)) (s.marks ++ ms) f, tt)
own-more script done (x ∷ ss) s ms e f = (e.0, own-more script (done ++ x ∷ []) ss s ms e.1 f)

-- the marks of the last step stand at its node
each-there : (P : Mark → Type 0) (ms : List Mark) → All P ms → Each P ms
each-there P [] e = tt
each-there P (m ∷ ms) e = (All-head P m ms e, each-there P ms (All-tail P m ms e))

pub last-there : (script : Script) (done ss : List Step) (s : Step) → AreOrdered script done (ss ++ s ∷ []) → Each (IsAtNode script s.stamp.node) s.marks
last-there script done [] s e = each-there (IsAtNode script s.stamp.node) s.marks e.0.marks
last-there script done (x ∷ ss) s e = last-there script (done ++ x ∷ []) ss s e.1

-- BEHIND EACH STEP
-- the transaction holds its own lock at the segment unless it has ended there
abbrev pub HoldsItself : Seg → Gxid → Type 0
HoldsItself s g = has_ended (local_of s g).phase ≡ false → IsIn s.locks.holds (own_lock g)

-- so does who has written at a segment
abbrev pub Stands : (ℕ → Seg) → Mark → Type 0
Stands segs (mark.Write g c n table rid image) = (1 ≤ n.0) × HoldsItself (segs n.0) g
Stands segs _ = Unit {0}

-- the coordinator writes no row
pub none-there : (script : Script) (segs : ℕ → Seg) (ms : List Mark) → Each (IsAtNode script the_coordinator) ms → Each (Stands segs) ms
none-there script segs [] e = tt
none-there script segs (mark.Write g c n table rid image ∷ ms) e = absurd (one-le-none e.0.1.0)
none-there script segs (m ∷ ms) e = (tt, none-there script segs ms e.1)

-- a segment has become this
module _ (script : Script) (segs : ℕ → Seg) (i : ℕ) (t : Seg) where
  -- what has stood stands, where who hasn't ended there has lost no lasting lock
  pub old-stands : ((h : Gxid) → Lasts (at i) (segs i) t h) → (ms : List Mark) → Each (Stands segs) ms → Each (Stands (with_at segs i t)) ms
  old-stands lasts ms e = each_weaker (Stands segs) (Stands (with_at segs i t)) one ms e
    where
      by_test : (g : Gxid) (n : Node) (b : Bool) → eqb n.0 i ≡ b → HoldsItself (segs n.0) g → HoldsItself (if b then t else segs n.0) g
      by_test g n false q f e = f e
      by_test g n true q f e =
          let a = lasts g e in
          a.1 (own_lock g) refl (own-lasts (at i) g) (subst (λ j. HoldsItself (segs j) g) (eqb-true n.0 i q) f a.0)

      one : (m : Mark) → Stands segs m → Stands (with_at segs i t) m
      one (mark.Write g c n table rid image) f = (f.0, by_test g n (eqb n.0 i) refl f.1)
      one m f = tt

  -- and so does what is written there
  pub new-stands : (ms : List Mark) → Each (IsAtNode script (at i)) ms → Each (WritesOwn t.locks.holds) ms → Each (Stands (with_at segs i t)) ms
  new-stands [] e f = tt
  new-stands (mark.Write g c n table rid image ∷ ms) e f =
      ((subst (λ (k : Node). 1 ≤ k.0) (sym e.0.0) e.0.1.0, λ lives. subst (λ (k : Node). IsIn (with_at segs i t k.0).locks.holds (own_lock g)) (sym e.0.0) (subst (λ (b : Bool). IsIn (if b then t else segs i).locks.holds (own_lock g)) (sym (eqb-self i)) f.0)), new-stands ms e.1 f.1)
  new-stands (m ∷ ms) e f = (tt, new-stands ms e.1 f.1)

-- of one of these marks
pub stands-at : (segs : ℕ → Seg) (earlier later : List Mark) (m : Mark) → Each (Stands segs) (earlier ++ m ∷ later) → Stands segs m
stands-at segs [] later m e = e.0
stands-at segs (x ∷ earlier) later m e = stands-at segs earlier later m e.1
