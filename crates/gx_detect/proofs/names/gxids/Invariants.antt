use Rattle.std.proofs.Common.{◌≡◌, take, map}
use Rattle.gx_detect.proofs.names.gxids.Given as goal

abbrev pub invariant-loop-number : goal.invariant-loop-number
invariant-loop-number l = l.gxids.items ≡ map (λ n. record { 0 = n }) (take l.number-index l.numbers)
