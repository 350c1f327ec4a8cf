use Rattle.std.proofs.Common.{◌≡◌, take, map, filter}
use Rattle.gx_detect.specs.Core.{waiter_is_left}
use Rattle.gx_detect.specs.Tally.{count_at}
use Rattle.gx_detect.proofs.names.waiters_left.Given as goal

abbrev pub invariant-loop-edge : goal.invariant-loop-edge
invariant-loop-edge l = l.numbers.items ≡ map (λ e. e.edge.waiter.0) (filter (waiter_is_left (count_at l.tally)) (take l.edge-index l.edges))
