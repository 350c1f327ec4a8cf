use Rattle.std.proofs.Common.{◌≡◌, ◌++◌, List, drop}
use Rattle.gx_ids.specs.declared.ids.Gxid.{Gxid}
use Rattle.gx_trace.specs.declared.seen.SeenMark.{SeenMark}
use Rattle.gx_judging.specs.Answers.{answer_at, cause_at}
use Rattle.gx_judging.specs.Filled.{cause_from}
use Rattle.gx_judging.proofs.causes.note_marks.Given as goal

abbrev pub invariant-loop-mark : goal.invariant-loop-mark
invariant-loop-mark l =
    (g : Gxid) (more : List SeenMark) → cause_from (answer_at l.answers) g (cause_at l.causes g) l.causes.aborted (drop l.mark-index l.marks ++ more)
    ≡ cause_from (answer_at l.answers) g (cause_at l.initial.causes g) l.initial.causes.aborted (l.marks ++ more)
