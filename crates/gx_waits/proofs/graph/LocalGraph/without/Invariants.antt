use Rattle.std.proofs.Common.{◌≡◌, take, filter, not}
use Rattle.gx_waits.specs.Edge.{names}
use Rattle.gx_waits.proofs.graph.LocalGraph.without.Given as goal

abbrev pub invariant-loop-edge : goal.invariant-loop-edge
invariant-loop-edge l = l.kept.items ≡ filter (λ edge. not (names l.gxid edge)) (take l.edge-index l.edge-items)
