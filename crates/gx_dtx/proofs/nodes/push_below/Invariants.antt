use Rattle.std.proofs.Common.{◌≡◌, ◌++◌, drop, filter}
use Rattle.std.specs.Prelude.{nat_lt}
use Rattle.gx_dtx.proofs.nodes.push_below.Given as goal

abbrev pub invariant-loop-other : goal.invariant-loop-other
invariant-loop-other l = l.below.items ++ filter (λ j. nat_lt j.0 l.node.0) (drop l.other-index l.nodes) ≡ l.initial.below.items ++ filter (λ j. nat_lt j.0 l.node.0) l.nodes
