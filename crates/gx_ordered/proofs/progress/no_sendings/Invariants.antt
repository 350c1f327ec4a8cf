use Rattle.std.proofs.Common.{◌≡◌, [], replicate}
use Rattle.gx_ordered.proofs.progress.no_sendings.Given as goal

abbrev pub invariant-loop-node : goal.invariant-loop-node
invariant-loop-node l = l.links.items ≡ replicate l._node []
