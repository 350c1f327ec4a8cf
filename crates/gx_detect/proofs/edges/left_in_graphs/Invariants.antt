use Rattle.std.proofs.Common.{◌≡◌, take, map}
use Rattle.gx_detect.specs.Reduce.{is_left, kept_edges}
use Rattle.gx_detect.specs.Tally.{count_at}
use Rattle.gx_detect.proofs.edges.left_in_graphs.Given as goal

abbrev pub invariant-loop-graph : goal.invariant-loop-graph
invariant-loop-graph l = l.left.items ≡ map (kept_edges (is_left (count_at l.tally))) (take l.graph-index l.graphs)
