use Rattle.std.proofs.Common.{◌≡◌, ◌<◌, length}
use Rattle.gx_ids.specs.declared.ids.SessionId.{SessionId}
use Rattle.gx_store.specs.Marks.{answer_count}
use Rattle.gx_judging.specs.Answers.{answers_at}
use Rattle.gx_judging.proofs.answered.are_answered.Given as goal

abbrev pub invariant-loop-number : goal.invariant-loop-number
invariant-loop-number l = (session : SessionId) → session.0 < l.number → answer_count session l.marks ≡ length (answers_at l.answers.by_session.items session.0)
