use Rattle.gx_read_trace.proofs.Stepping.{StepsSoFar}
use Rattle.gx_read_trace.proofs.steps.read_steps.Given as goal

-- the steps so far, and so many to come
abbrev pub invariant-loop-step : goal.invariant-loop-step
invariant-loop-step l = StepsSoFar l.script l.fn.lines l.count l._step l.lines l.steps
