use Rattle.std.proofs.Common.{◌≡◌, drop}
use Rattle.gx_store.specs.Marks.{node_of}
use Rattle.gx_legal.proofs.marks.node_of.Given as goal

abbrev pub invariant-loop-mark : goal.invariant-loop-mark
invariant-loop-mark l = node_of (drop l.mark-index l.marks) l.rid ≡ node_of l.marks l.rid
