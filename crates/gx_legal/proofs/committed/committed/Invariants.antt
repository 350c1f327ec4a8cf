use Rattle.std.proofs.Common.{◌≡◌, [], drop}
use Rattle.gx_legal.specs.Gathered.{committed_from}
use Rattle.gx_legal.proofs.committed.committed.Given as goal

abbrev pub invariant-loop-mark : goal.invariant-loop-mark
invariant-loop-mark l = committed_from l.gxids.keys (drop l.mark-index l.marks) ≡ committed_from [] l.marks
