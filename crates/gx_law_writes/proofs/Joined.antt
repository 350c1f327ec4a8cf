-- The parts of what legal locks are, joined: what holds of each mark, of each point and of each step.
use Rattle.std.proofs.Common.{◌≡◌, ◌⊎◌, List, [], ◌∷◌, ◌++◌, true, false, sym, subst, append_assoc, append-nil}
use Rattle.gx_script.specs.declared.Script.{Script}
use Rattle.gx_store.specs.declared.event.Event.{Event}
use Rattle.gx_store.specs.declared.mark.Mark.{Mark}
use Rattle.gx_store.specs.declared.mark.Mark.TheVariants as mark
use Rattle.gx_store.specs.declared.run.Step.{Step}
use Rattle.gx_store.proofs.Runs.{marks_in-push}
use Rattle.gx_store.specs.Locks.{AreGranted, AreLockedMarks, AreLockedSteps, IsMomentary, LegalHold, LegalWait, LocksAt, LocksWhileReading, WritesUnderLock}
use Rattle.gx_store.specs.Marks.{is_aborted, is_ended}
use Rattle.gx_store.specs.Points.{Point, before, marks_in}
use Rattle.gx_waits.specs.Claims.{claim}
use Rattle.gx_law_order.specs.Rest.{EachMark}
use Rattle.gx_law_locks.specs.Late.{AreReleasesLate}
use Rattle.gx_law_locks.specs.Marked.{AreWaitsLegal}
use Rattle.gx_law_locks.specs.Own.{DoHoldOwn}
use Rattle.gx_law_locks.specs.Writes.{AreWritesUnderLock}
use Rattle.gx_law_writes.specs.Commands.{AnswerHolds, AreAnswersHeld, AreReadsHeld, EachPoint}

-- WHAT IS ASKED OF EACH MARK BUT AN ANSWER
-- it needs only the marks before
abbrev pub AtMark : Script → List Mark → Mark → Type 0
AtMark script marks (mark.Hold node g object mode) = LegalHold marks node (claim g object mode)
AtMark script marks (mark.Wait node g object mode) = LegalWait marks node (claim g object mode)
AtMark script marks (mark.Release node g object mode) = IsMomentary node object mode ⊎ (is_ended marks g ≡ true)
AtMark script marks (mark.Write g c node table rid image) = is_aborted marks g ≡ false → WritesUnderLock script marks node g table
AtMark script marks _ = Unit {0}

abbrev pub AtMarks : Script → List Mark → List Mark → Type 0
AtMarks script marks [] = Unit {0}
AtMarks script marks (m ∷ ms) = AtMark script marks m × AtMarks script (marks ++ m ∷ []) ms

pub at-marks : (script : Script) (marks ms : List Mark) → AreGranted marks ms → AreWaitsLegal marks ms → AreReleasesLate marks ms → AreWritesUnderLock script marks ms → AtMarks script marks ms
at-marks script marks [] holds waits late writes = tt
at-marks script marks (mark.Hold n g object mode ∷ ms) holds waits late writes = (holds.0, at-marks script (marks ++ mark.Hold n g object mode ∷ []) ms holds.1 waits late writes)
at-marks script marks (mark.Wait n g object mode ∷ ms) holds waits late writes = (waits.0.meets, at-marks script (marks ++ mark.Wait n g object mode ∷ []) ms holds waits.1 late writes)
at-marks script marks (mark.Release n g object mode ∷ ms) holds waits late writes = (late.0, at-marks script (marks ++ mark.Release n g object mode ∷ []) ms holds waits late.1 writes)
at-marks script marks (mark.Write g c n table rid image ∷ ms) holds waits late writes =
    (writes.0, at-marks script (marks ++ mark.Write g c n table rid image ∷ []) ms holds waits late writes.1)
at-marks script marks (m ∷ ms) holds waits late writes = (tt, at-marks script (marks ++ m ∷ []) ms holds waits late writes)

at-front : (script : Script) (marks xs ys : List Mark) → AtMarks script marks (xs ++ ys) → AtMarks script marks xs
at-front script marks [] ys h = tt
at-front script marks (x ∷ xs) ys h = (h.0, at-front script (marks ++ x ∷ []) xs ys h.1)

at-behind : (script : Script) (marks xs ys : List Mark) → AtMarks script marks (xs ++ ys) → AtMarks script (marks ++ xs) ys
at-behind script marks [] ys h = subst (λ b. AtMarks script b ys) (sym (append-nil marks)) h
at-behind script marks (x ∷ xs) ys h = subst (λ b. AtMarks script b ys) (append_assoc marks (x ∷ []) xs) (at-behind script (marks ++ x ∷ []) xs ys h.1)

-- THE MARKS OF A STEP
locks-at : (script : Script) (point : Point) (m : Mark) → AtMark script (before point) m → AnswerHolds script point m → LocksAt script point m
locks-at script point (mark.Hold n g object mode) h a = h
locks-at script point (mark.Wait n g object mode) h a = h
locks-at script point (mark.Release n g object mode) h a = h
locks-at script point (mark.Write g c n table rid image) h a = h
locks-at script point (mark.Answer session number answer) h a = a
locks-at script point m h a = tt

locked-marks : (script : Script) (steps : List Step) (e : Event) (earlier ms : List Mark)
    → AtMarks script (marks_in steps ++ earlier) ms → EachMark (AnswerHolds script) steps e earlier ms [] → EachPoint (LocksWhileReading script) steps e earlier ms
    → AreLockedMarks script steps e earlier ms
locked-marks script steps e earlier [] marks answers reading = tt
locked-marks script steps e earlier (m ∷ ms) marks answers reading = (
  record {
    here = locks-at script (record { steps = steps; event = e; earlier = earlier; later = ms }) m marks.0
        (subst (λ later. AnswerHolds script (record { steps = steps; event = e; earlier = earlier; later = later }) m) (append-nil ms) answers.0);
    reading = reading.0;
  },
  locked-marks script steps e (earlier ++ m ∷ []) ms (subst (λ b. AtMarks script b ms) (append_assoc (marks_in steps) earlier (m ∷ [])) marks.1) answers.1 reading.1,
)

-- STEPS
pub locked-steps : (script : Script) (done ss : List Step)
    → AtMarks script (marks_in done) (marks_in ss) → AreAnswersHeld script done ss → AreReadsHeld script done ss → DoHoldOwn done ss → AreLockedSteps script done ss
locked-steps script done [] marks answers reading own = tt
locked-steps script done (s ∷ ss) marks answers reading own =
    (locked-marks script done s.event [] s.marks front answers.0 reading.0, own.0, locked-steps script (done ++ s ∷ []) ss behind answers.1 reading.1 own.1)
  where
    front : AtMarks script (marks_in done ++ []) s.marks
    front = subst (λ b. AtMarks script b s.marks) (sym (append-nil (marks_in done))) (at-front script (marks_in done) s.marks (marks_in ss) marks)

    behind : AtMarks script (marks_in (done ++ s ∷ [])) (marks_in ss)
    behind = subst (λ b. AtMarks script b (marks_in ss)) (sym (marks_in-push done s)) (at-behind script (marks_in done) s.marks (marks_in ss) marks)
