use Rattle.std.proofs.Common.{◌≡◌, ◌++◌, drop}
use Rattle.gx_store.specs.Points.{marks_in}
use Rattle.gx_legal.proofs.copying.all_marks.Given as goal

abbrev pub invariant-loop-step : goal.invariant-loop-step
invariant-loop-step l = l.all.items ++ marks_in (drop l.step-index l.steps) ≡ marks_in l.steps
