use Rattle.std.proofs.Common.{◌≡◌, map, take}
use Rattle.gx_judging.specs.Answers.{answer_at, cause_at}
use Rattle.gx_judging.specs.Filled.{filled_step}
use Rattle.gx_judging.proofs.filling.filled_steps.Given as goal

abbrev pub invariant-loop-step : goal.invariant-loop-step
invariant-loop-step l = l.all.items ≡ map (filled_step (answer_at l.answers) (cause_at l.causes)) (take l.step-index l.steps)
