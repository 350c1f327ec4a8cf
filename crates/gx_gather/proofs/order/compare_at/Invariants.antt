use Rattle.std.proofs.Common.{◌≡◌, drop}
use Rattle.gx_meaning.specs.Order.{by_places}
use Rattle.gx_gather.proofs.order.compare_at.Given as goal

abbrev pub invariant-loop-key : goal.invariant-loop-key
invariant-loop-key l = by_places (drop l.key-index l.keys) l.left l.right ≡ by_places l.keys l.left l.right
