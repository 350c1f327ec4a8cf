use Rattle.std.proofs.Common.{◌≡◌, take}
use Rattle.gx_waits.specs.LocalGraph.{edges_of}
use Rattle.gx_judging.proofs.standing.all_edges.Given as goal

abbrev pub invariant-loop-graph : goal.invariant-loop-graph
invariant-loop-graph l = l.edges.items ≡ edges_of (take l.graph-index l.graphs)
