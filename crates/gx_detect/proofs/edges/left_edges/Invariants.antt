use Rattle.std.proofs.Common.{◌≡◌, take, filter}
use Rattle.gx_detect.specs.Reduce.{is_left}
use Rattle.gx_detect.specs.Tally.{count_at}
use Rattle.gx_detect.proofs.edges.left_edges.Given as goal

abbrev pub invariant-loop-edge : goal.invariant-loop-edge
invariant-loop-edge l = l.left.items ≡ filter (is_left (count_at l.tally)) (take l.edge-index l.edges)
