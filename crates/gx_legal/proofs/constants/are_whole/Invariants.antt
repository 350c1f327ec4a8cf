use Rattle.std.proofs.Common.{◌≡◌, drop}
use Rattle.gx_legal.specs.Faulted.{are_whole}
use Rattle.gx_legal.proofs.constants.are_whole.Given as goal

abbrev pub invariant-loop-tuple : goal.invariant-loop-tuple
invariant-loop-tuple l = are_whole (drop l.tuple-index l.tuples) ≡ are_whole l.tuples
