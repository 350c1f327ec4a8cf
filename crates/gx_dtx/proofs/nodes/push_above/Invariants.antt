use Rattle.std.proofs.Common.{◌≡◌, ◌++◌, drop, filter}
use Rattle.std.specs.Prelude.{nat_lt}
use Rattle.gx_dtx.proofs.nodes.push_above.Given as goal

abbrev pub invariant-loop-other : goal.invariant-loop-other
invariant-loop-other l = l.above.items ++ filter (λ j. nat_lt l.node.0 j.0) (drop l.other-index l.nodes) ≡ l.initial.above.items ++ filter (λ j. nat_lt l.node.0 j.0) l.nodes
