use Rattle.std.proofs.Common.{take}
use Rattle.gx_detect.specs.Reducing.{AreTakenOut, IsCounted}
use Rattle.gx_detect.proofs.settle.take_out_all.Given as goal

abbrev pub invariant-loop-index : goal.invariant-loop-index
invariant-loop-index l = record {
  counted : IsCounted l.edges l.rest;
  out : AreTakenOut l.edges (take l.index-index l.indexes) l.initial.rest l.rest;
}
