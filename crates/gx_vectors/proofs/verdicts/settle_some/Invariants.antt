use Rattle.gx_decide.specs.Kept.{Knows}
use Rattle.gx_decide.specs.Memory.{state_of}
use Rattle.gx_vectors.proofs.verdicts.settle_some.Given as goal

abbrev pub invariant-loop-gxid : goal.invariant-loop-gxid
invariant-loop-gxid l = Knows l.decider (state_of l.disk)
