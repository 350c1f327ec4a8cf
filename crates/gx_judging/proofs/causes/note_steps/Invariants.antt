use Rattle.std.proofs.Common.{◌≡◌, drop}
use Rattle.gx_ids.specs.declared.ids.Gxid.{Gxid}
use Rattle.gx_judging.specs.Answers.{answer_at, cause_at}
use Rattle.gx_judging.specs.Filled.{cause_from, marks_seen}
use Rattle.gx_judging.proofs.causes.note_steps.Given as goal

abbrev pub invariant-loop-step : goal.invariant-loop-step
invariant-loop-step l =
    (g : Gxid) → cause_from (answer_at l.answers) g (cause_at l.causes g) l.causes.aborted (marks_seen (drop l.step-index l.steps))
    ≡ cause_from (answer_at l.answers) g (cause_at l.initial.causes g) l.initial.causes.aborted (marks_seen l.steps)
