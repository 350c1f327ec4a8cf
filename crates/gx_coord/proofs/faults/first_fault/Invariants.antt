use Rattle.std.proofs.Common.{◌≡◌, drop}
use Rattle.gx_coord.specs.Faults.{faulting}
use Rattle.gx_coord.proofs.faults.first_fault.Given as goal

abbrev pub invariant-loop-tuple : goal.invariant-loop-tuple
invariant-loop-tuple l = faulting l.ordinal (drop l.tuple-index l.tuples) ≡ faulting 1 l.tuples
