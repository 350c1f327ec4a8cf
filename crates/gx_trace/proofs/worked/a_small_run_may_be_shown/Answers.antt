use Rattle.std.proofs.Common.{ℕ, ◌^◌, ◌<◌, [], ◌∷◌, codes, refl, arith}
use Rattle.std.proofs.lemmas.List.Elements.{All-nil, All-cons}
use Rattle.gx_report.specs.Worked.{a_table, first_session, txn}
use Rattle.gx_store.specs.declared.answer.StmtAnswer.TheVariants as answer
use Rattle.gx_store.specs.declared.mark.Mark.TheVariants as mark
use Rattle.gx_trace.specs.Lawful.{IsAnswer, IsSeenMark, IsSession}
use Rattle.gx_trace.specs.Shown.{IsRowOf, IsSeenStep}
use Rattle.gx_trace.specs.Worked.{answer_of, first_step, second_step, small_script}
use Rattle.gx_trace.specs.declared.seen.SeenAnswer.{SeenAnswer}
use Rattle.gx_trace.specs.declared.seen.SeenStep.{SeenStep}
use Rattle.gx_trace.specs.declared.seen.SeenMark.TheVariants.{Whole, Answer}
use Rattle.gx_trace.proofs.worked.a_small_run_may_be_shown.Goals as goal

the-session : IsSession small_script first_session
the-session = record { name = codes "s1"; here = refl; letters = (refl, (refl, tt)); first = λ k below. absurd (omega arith); small = omega arith }

begun : IsSeenMark small_script (Whole (mark.Start (txn 1) first_session))
begun = (omega arith, the-session)

aborted : IsSeenMark small_script (Whole (mark.Abort (txn 1)))
aborted = omega arith

answered : (number : ℕ) → number < 2 ^ 32 → IsSeenMark small_script (Answer first_session number)
answered number small = (the-session, small)

first : IsSeenStep small_script first_step
first = record {
  clock = omega arith;
  node = omega arith;
  event = the-session;
  marks =
      All-cons (IsSeenMark small_script) (Whole (mark.Start (txn 1) first_session)) (Answer first_session 1 ∷ []) begun
      (All-cons (IsSeenMark small_script) (Answer first_session 1) [] (answered 1 (omega arith)) (All-nil (IsSeenMark small_script)));
}

second : IsSeenStep small_script second_step
second = record {
  clock = omega arith;
  node = omega arith;
  event = the-session;
  marks =
      All-cons (IsSeenMark small_script) (Whole (mark.Abort (txn 1))) (Answer first_session 2 ∷ []) aborted
      (All-cons (IsSeenMark small_script) (Answer first_session 2) [] (answered 2 (omega arith)) (All-nil (IsSeenMark small_script)));
}

pub returns : goal.returns
returns c =
    let P : SeenAnswer → Type 0 = λ said. IsAnswer said.answer in
    let S : SeenStep → Type 0 = IsSeenStep small_script in
    record {
      whole = refl;
      answers = All-cons P (answer_of 1 answer.Begin) (answer_of 2 answer.Rollback ∷ []) tt (All-cons P (answer_of 2 answer.Rollback) [] tt (All-nil P));
      tables = (omega arith, All-nil (IsRowOf a_table), tt);
      count = omega arith;
      steps = All-cons S first_step (second_step ∷ []) first (All-cons S second_step [] second (All-nil S));
    }
