use Rattle.std.proofs.Common.{◌≡◌, ◌++◌, drop}
use Rattle.gx_dtx.specs.Nodes.{to_each}
use Rattle.gx_dtx.specs.Orders.{message_of}
use Rattle.gx_dtx.proofs.order.Order.to_each.Given as goal

abbrev pub invariant-loop-node : goal.invariant-loop-node
invariant-loop-node l = l.outs.items ++ to_each (message_of l.self l.gxid) (drop l.node-index l.nodes) ≡ to_each (message_of l.self l.gxid) l.nodes
