use Rattle.std.proofs.Common.{◌≡◌, ◌++◌, take, map}
use Rattle.gx_judging.proofs.standing.add_edges.Given as goal

abbrev pub invariant-loop-edge : goal.invariant-loop-edge
invariant-loop-edge l = l.edges.items ≡ l.initial.edges.items ++ map (λ edge. record { node = l.graph.node; edge = edge }) (take l.edge-index l.edge-items)
