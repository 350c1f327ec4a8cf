use Rattle.std.proofs.Common.{◌≡◌, [], replicate}
use Rattle.gx_judging.proofs.locks.no_claims.Given as goal

abbrev pub invariant-loop-node : goal.invariant-loop-node
invariant-loop-node l = l.lists.items ≡ replicate l._node []
