use Rattle.std.proofs.Common.{length}
use Rattle.gx_read_trace.specs.ReadText.{cut}
use Rattle.gx_read_trace.proofs.Stepping.{MarksSoFar}
use Rattle.gx_read_trace.proofs.steps.read_marks.Given as goal

abbrev pub invariant-loop-alloc : goal.invariant-loop-alloc
invariant-loop-alloc l = MarksSoFar l.script l.initial.lines l.lines l.marks

abbrev pub decreases-loop-alloc : goal.decreases-loop-alloc
decreases-loop-alloc l = length (cut l.lines.left).0
