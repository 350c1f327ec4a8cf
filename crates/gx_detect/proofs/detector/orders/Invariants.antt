use Rattle.std.proofs.Common.{◌≡◌}
use Rattle.gx_detect.specs.Rounds.{collects}
use Rattle.gx_detect.proofs.detector.orders.Given as goal

abbrev pub invariant-loop-place : goal.invariant-loop-place
invariant-loop-place l = l.outs.items ≡ collects l.place l.round
