use Rattle.std.proofs.Common.{◌≡◌, take}
use Rattle.gx_legal.proofs.copying.all_steps.Given as goal

abbrev pub invariant-loop-place : goal.invariant-loop-place
invariant-loop-place l = l.all.items ≡ take l.place l.steps
