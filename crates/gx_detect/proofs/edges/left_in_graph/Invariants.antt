use Rattle.std.proofs.Common.{◌≡◌, take, filter}
use Rattle.gx_detect.specs.Reduce.{is_left}
use Rattle.gx_detect.specs.Tally.{count_at}
use Rattle.gx_detect.proofs.edges.left_in_graph.Given as goal

abbrev pub invariant-loop-edge : goal.invariant-loop-edge
invariant-loop-edge l = l.kept.items ≡ filter (λ edge. is_left (count_at l.tally) (record { node = l.node; edge = edge })) (take l.edge-index l.edge-items)
