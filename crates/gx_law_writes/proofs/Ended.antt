-- Whoever has written at a segment and doesn't hold its own lock there has ended, by the marks.
use Rattle.std.proofs.Common.{◌≡◌, ◌∙◌, ℕ, ◌≤◌, List, [], ◌∷◌, ◌++◌, Bool, true, false, refl, ap, sym, subst, if◌then◌else◌, ◌&&◌, ◌||◌, eqb, arith, append_assoc, append-nil}
use Rattle.std.proofs.lemmas.Bool.Decides.{nat_tests}
use Rattle.std.specs.List.{list_any}
use Rattle.gx_ids.specs.declared.ids.Gxid.{Gxid}
use Rattle.gx_ids.specs.declared.ids.Node.{Node}
use Rattle.gx_waits.specs.Claim.{same_claim}
use Rattle.gx_lemmas.proofs.Tests.{or-false, true-false}
use Rattle.gx_store.proofs.Marks.{is_aborted-append}
use Rattle.gx_store.specs.declared.mark.Mark.{Mark}
use Rattle.gx_store.specs.declared.mark.Mark.TheVariants as mark
use Rattle.gx_store.specs.declared.run.Step.{Step}
use Rattle.gx_store.specs.Journals.{is_same_node}
use Rattle.gx_store.specs.Locks.{HoldOwn}
use Rattle.gx_store.specs.Marks.{is_aborted, is_committed, is_ended, is_same_gxid}
use Rattle.gx_store.specs.Points.{marks_in}
use Rattle.gx_store.specs.Protocol.{is_writer}
use Rattle.gx_store.specs.Waits.{holds_at}
use Rattle.gx_script.specs.declared.Script.{Script}
use Rattle.gx_rules.specs.Machine.{World}
use Rattle.gx_rules.specs.Slices.{own_lock}
use Rattle.gx_law_order.proofs.Sent.{at}
use Rattle.gx_law_order.proofs.Counts.{writer-append}
use Rattle.gx_law_locks.specs.Late.{AreReleasesLate}
use Rattle.gx_law_locks.specs.Own.{DoHoldOwn}
use Rattle.gx_law_locks.proofs.Lasting.{IsIn, late-behind, still-held}
use Rattle.gx_law_locks.proofs.Moves.{own-lasts}
use Rattle.gx_law_locks.proofs.HoldsInRuns.{Locked}

-- IN A STEP
same-gxids : (a b : Gxid) → is_same_gxid a b ≡ true → a ≡ b
same-gxids a b e = grind (arith, nat_tests)

same-nodes : (a b : Node) → is_same_node a b ≡ true → a ≡ b
same-nodes a b e = grind (arith, nat_tests)

and-both : (a b : Bool) → (a && b) ≡ true → (a ≡ true) × (b ≡ true)
and-both true true e = (refl, refl)
and-both true false e = absurd (cc)
and-both false b e = absurd (cc)

-- who isn't aborted behind all of them wasn't at any
alive-before : (xs ys : List Mark) (g : Gxid) → is_aborted (xs ++ ys) g ≡ false → is_aborted xs g ≡ false
alive-before xs ys g e = left-no (is_aborted xs g) (is_aborted ys g) (sym (is_aborted-append xs ys g) ∙ e)
  where
    left-no : (a b : Bool) → (a || b) ≡ false → a ≡ false
    left-no a b e = grind arith

held-behind : (node : Node) (g : Gxid) (marks after ms : List Mark) → HoldOwn marks after ms → is_writer ms g node ≡ true → is_aborted (marks ++ ms) g ≡ false → IsIn (holds_at after node) (own_lock g)
held-behind node g marks after [] e w alive = absurd (cc)
held-behind node g marks after (mark.Write h c n t r x ∷ ms) e w alive =
    by_test (is_same_gxid h g && is_same_node n node) refl w
    (λ z. held-behind node g (marks ++ mark.Write h c n t r x ∷ []) after ms e.1 z (subst (λ (ns : List Mark). is_aborted ns g ≡ false) (sym (append_assoc marks (mark.Write h c n t r x ∷ []) ms)) alive))
  where
    by_test : (b : Bool) → (is_same_gxid h g && is_same_node n node) ≡ b → (b || is_writer ms g node) ≡ true → (is_writer ms g node ≡ true → IsIn (holds_at after node) (own_lock g)) → IsIn (holds_at after node) (own_lock g)
    by_test true q w more =
        let same = and-both (is_same_gxid h g) (is_same_node n node) q in
        subst (λ (a : Gxid). IsIn (holds_at after node) (own_lock a)) (same-gxids h g same.0)
        (subst (λ (a : Node). IsIn (holds_at after a) (own_lock h)) (same-nodes n node same.1)
        (e.0 (subst (λ (a : Gxid). is_aborted marks a ≡ false) (sym (same-gxids h g same.0)) (alive-before marks (mark.Write h c n t r x ∷ ms) g alive))))
    by_test false q w more = more w
held-behind node g marks after (m ∷ ms) e w alive = held-behind node g (marks ++ m ∷ []) after ms e w (subst (λ (ns : List Mark). is_aborted ns g ≡ false) (sym (append_assoc marks (m ∷ []) ms)) alive)

-- BEHIND ALL STEPS
marks-append : (xs ys : List Step) → marks_in (xs ++ ys) ≡ marks_in xs ++ marks_in ys
marks-append [] ys = refl
marks-append (s ∷ xs) ys = ap (λ ms. s.marks ++ ms) (marks-append xs ys) ∙ sym (append_assoc s.marks (marks_in xs) (marks_in ys))

module _ (node : Node) (g : Gxid) where
  -- who has written in these steps holds its lock behind them, unless it has ended
  writer-holds : (before ss : List Step) → DoHoldOwn before ss → AreReleasesLate [] (marks_in before ++ marks_in ss) → is_writer (marks_in ss) g node ≡ true → is_ended (marks_in before ++ marks_in ss) g ≡ false
      → IsIn (holds_at (marks_in before ++ marks_in ss) node) (own_lock g)
  writer-holds before [] e late w runs = absurd (cc)
  writer-holds before (s ∷ ss) e late w runs = by_test (is_writer s.marks g node) refl (sym (writer-append s.marks (marks_in ss) g node) ∙ w) (λ l z r. writer-holds (before ++ s ∷ []) ss e.1 l z r)
    where
      all : marks_in before ++ (s.marks ++ marks_in ss) ≡ (marks_in before ++ s.marks) ++ marks_in ss
      all = sym (append_assoc (marks_in before) s.marks (marks_in ss))

      last : marks_in (before ++ s ∷ []) ≡ marks_in before ++ s.marks
      last = marks-append before (s ∷ []) ∙ ap (λ ms. marks_in before ++ ms) (append-nil s.marks)

      alive : is_aborted (marks_in before ++ s.marks) g ≡ false
      alive = alive-before (marks_in before ++ s.marks) (marks_in ss) g (subst (λ (ms : List Mark). is_aborted ms g ≡ false) all (second (is_committed (marks_in before ++ (s.marks ++ marks_in ss)) g) _ runs))
        where
          second : (a b : Bool) → (a || b) ≡ false → b ≡ false
          second a b e = grind arith

      by_test : (b : Bool) → is_writer s.marks g node ≡ b → (b || is_writer (marks_in ss) g node) ≡ true
          → (AreReleasesLate [] (marks_in (before ++ s ∷ []) ++ marks_in ss) → is_writer (marks_in ss) g node ≡ true → is_ended (marks_in (before ++ s ∷ []) ++ marks_in ss) g ≡ false
          → IsIn (holds_at (marks_in (before ++ s ∷ []) ++ marks_in ss) node) (own_lock g))
          → IsIn (holds_at (marks_in before ++ (s.marks ++ marks_in ss)) node) (own_lock g)
      by_test true q w more =
          subst (λ (ms : List Mark). IsIn (holds_at ms node) (own_lock g)) (sym all)
          (still-held node (own_lock g) (own-lasts node g) (marks_in before ++ s.marks) (marks_in ss) (late-behind [] (marks_in before ++ s.marks) (marks_in ss) (subst (AreReleasesLate []) all late))
          (subst (λ (ms : List Mark). is_ended ms g ≡ false) all runs) (held-behind node g (marks_in before) (marks_in before ++ s.marks) s.marks e.0 q alive))
      by_test false q w more =
          subst (λ (ms : List Mark). IsIn (holds_at ms node) (own_lock g)) (ap (λ (ms : List Mark). ms ++ marks_in ss) last ∙ sym all)
          (more (subst (AreReleasesLate []) (all ∙ ap (λ (ms : List Mark). ms ++ marks_in ss) (sym last)) late) w (subst (λ (ms : List Mark). is_ended ms g ≡ false) (all ∙ ap (λ (ms : List Mark). ms ++ marks_in ss) (sym last)) runs))

-- at a segment of the machine
pub writer-ended : (script : Script) (w : World) → Locked script w → (i : ℕ) → 1 ≤ i → (g : Gxid) → is_writer (marks_in w.steps) g (at i) ≡ true → list_any (same_claim (own_lock g)) (w.segs i).locks.holds ≡ false
    → is_ended (marks_in w.steps) g ≡ true
writer-ended script w q i one g wrote free = by_test (is_ended (marks_in w.steps) g) refl
  where
    by_test : (b : Bool) → is_ended (marks_in w.steps) g ≡ b → b ≡ true
    by_test true e = refl
    by_test false e =
        absurd (true-false (list_any (same_claim (own_lock g)) (w.segs i).locks.holds)
        (subst (λ hs. IsIn hs (own_lock g)) (sym (q.marked.segments i one).holds) (writer-holds (at i) g [] w.steps q.own q.late wrote e)) free)
