use Rattle.std.proofs.Common.{◌≡◌, drop}
use Rattle.gx_rules.specs.AtCoordinator.{order_to}
use Rattle.gx_coord.proofs.again.is_order_to.Given as goal

abbrev pub invariant-loop-out : goal.invariant-loop-out
invariant-loop-out l = order_to l.node l.orders ≡ order_to l.node (drop l.out-index l.orders)
