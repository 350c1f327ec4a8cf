use Rattle.std.proofs.Common.{◌≡◌, take}
use Rattle.gx_coord.proofs.orders.copied.Given as goal

abbrev pub invariant-loop-order : goal.invariant-loop-order
invariant-loop-order l = l.outs.items ≡ take l.order-index l.orders
