use Rattle.std.proofs.Common.{◌≡◌, replicate}
use Rattle.gx_ordered.proofs.progress.no_clocks.Given as goal

abbrev pub invariant-loop-node : goal.invariant-loop-node
invariant-loop-node l = l.clocks.items ≡ replicate l._node 0
