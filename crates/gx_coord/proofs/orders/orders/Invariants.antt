use Rattle.std.proofs.Common.{◌≡◌, ◌++◌, reverse}
use Rattle.gx_rules.specs.AtCoordinator.{orders_of}
use Rattle.gx_coord.proofs.orders.orders.Given as goal

abbrev pub invariant-loop-piece : goal.invariant-loop-piece
invariant-loop-piece l = l.outs.items ++ orders_of l.of.gxid l.of.cid l.of.level l.of.snapshot l.of.horizon (reverse l.pieces.items) ≡ orders_of l.of.gxid l.of.cid l.of.level l.of.snapshot l.of.horizon l.fn.pieces.items

abbrev pub decreases-loop-piece : goal.decreases-loop-piece
decreases-loop-piece l = goal.left-loop-piece l
