-- A write is of a transaction that runs, or has aborted.
use Rattle.std.proofs.Common.{◌≡◌, inl, inr, List, [], ◌∷◌, ◌++◌, false, sym, subst, append_assoc, append-nil}
use Rattle.gx_lemmas.proofs.Tests.{true-false}
use Rattle.gx_script.specs.declared.Script.{Script}
use Rattle.gx_store.specs.declared.event.Event.{Event}
use Rattle.gx_store.specs.declared.mark.Mark.{Mark}
use Rattle.gx_store.specs.declared.mark.Mark.TheVariants as mark
use Rattle.gx_store.specs.declared.run.Step.{Step}
use Rattle.gx_store.proofs.Runs.{marks_in-push}
use Rattle.gx_store.specs.Marks.{is_aborted}
use Rattle.gx_store.specs.Points.{marks_in}
use Rattle.gx_store.specs.Writes.{LegalWrite}
use Rattle.gx_store.specs.Locks.{WritesUnderLock}
use Rattle.gx_law_order.specs.Rest.{EachMark}
use Rattle.gx_law_writes.specs.Writes.{AreWritesLegal, WriteLegal}
use Rattle.gx_law_locks.specs.Writes.{AreWritesLocked, AreWritesUnderLock}

front : (script : Script) (before xs ys : List Mark) → AreWritesLocked script before (xs ++ ys) → AreWritesLocked script before xs
front script before [] ys e = tt
front script before (mark.Write g c n table rid image ∷ xs) ys e = (e.0, front script (before ++ mark.Write g c n table rid image ∷ []) xs ys e.1)
front script before (m ∷ xs) ys e = front script (before ++ m ∷ []) xs ys e

behind : (script : Script) (before xs ys : List Mark) → AreWritesLocked script before (xs ++ ys) → AreWritesLocked script (before ++ xs) ys
behind script before [] ys e = subst (λ b. AreWritesLocked script b ys) (sym (append-nil before)) e
behind script before (mark.Write g c n table rid image ∷ xs) ys e =
    subst (λ b. AreWritesLocked script b ys) (append_assoc before (mark.Write g c n table rid image ∷ []) xs) (behind script (before ++ mark.Write g c n table rid image ∷ []) xs ys e.1)
behind script before (m ∷ xs) ys e = subst (λ b. AreWritesLocked script b ys) (append_assoc before (m ∷ []) xs) (behind script (before ++ m ∷ []) xs ys e)

under-append : (script : Script) (before xs ys : List Mark) → AreWritesUnderLock script before xs → AreWritesUnderLock script (before ++ xs) ys → AreWritesUnderLock script before (xs ++ ys)
under-append script before [] ys e f = subst (λ b. AreWritesUnderLock script b ys) (append-nil before) f
under-append script before (mark.Write g c n table rid image ∷ xs) ys e f =
    (e.0, under-append script (before ++ mark.Write g c n table rid image ∷ []) xs ys e.1 (subst (λ b. AreWritesUnderLock script b ys) (sym (append_assoc before (mark.Write g c n table rid image ∷ []) xs)) f))
under-append script before (m ∷ xs) ys e f = under-append script (before ++ m ∷ []) xs ys e (subst (λ b. AreWritesUnderLock script b ys) (sym (append_assoc before (m ∷ []) xs)) f)

under-marks : (script : Script) (steps : List Step) (e : Event) (earlier ms later : List Mark) → EachMark (WriteLegal script) steps e earlier ms later → AreWritesLocked script (marks_in steps ++ earlier) ms → AreWritesUnderLock script (marks_in steps ++ earlier) ms
under-marks script steps e earlier [] later l w = tt
under-marks script steps e earlier (mark.Write g c n table rid image ∷ ms) later l w = (
  λ runs. by_case l.0 runs,
  subst (λ b. AreWritesUnderLock script b ms) (sym (append_assoc (marks_in steps) earlier (mark.Write g c n table rid image ∷ [])))
      (under-marks script steps e (earlier ++ mark.Write g c n table rid image ∷ []) ms later l.1 (subst (λ b. AreWritesLocked script b ms) (append_assoc (marks_in steps) earlier (mark.Write g c n table rid image ∷ [])) w.1)),
)
  where
    by_case : LegalWrite script (record { steps = steps; event = e; earlier = earlier; later = ms ++ later }) g c n table rid image → is_aborted (marks_in steps ++ earlier) g ≡ false → WritesUnderLock script (marks_in steps ++ earlier) n g table
    by_case (inl live) runs = w.0 live.runs.running
    by_case (inr late) runs = absurd (true-false (is_aborted (marks_in steps ++ earlier) g) late.late.aborted runs)
under-marks script steps e earlier (m ∷ ms) later l w =
    subst (λ b. AreWritesUnderLock script b ms) (sym (append_assoc (marks_in steps) earlier (m ∷ [])))
    (under-marks script steps e (earlier ++ m ∷ []) ms later l.1 (subst (λ b. AreWritesLocked script b ms) (append_assoc (marks_in steps) earlier (m ∷ [])) w))

pub under-steps : (script : Script) (before ss : List Step) → AreWritesLegal script before ss → AreWritesLocked script (marks_in before) (marks_in ss) → AreWritesUnderLock script (marks_in before) (marks_in ss)
under-steps script before [] l w = tt
under-steps script before (s ∷ ss) l w =
    under-append script (marks_in before) s.marks (marks_in ss)
    (subst (λ b. AreWritesUnderLock script b s.marks) (append-nil (marks_in before))
    (under-marks script before s.event [] s.marks [] l.0 (subst (λ b. AreWritesLocked script b s.marks) (sym (append-nil (marks_in before))) (front script (marks_in before) s.marks (marks_in ss) w))))
    (subst (λ b. AreWritesUnderLock script b (marks_in ss)) (marks_in-push before s)
    (under-steps script (before ++ s ∷ []) ss l.1 (subst (λ b. AreWritesLocked script b (marks_in ss)) (sym (marks_in-push before s)) (behind script (marks_in before) s.marks (marks_in ss) w))))
