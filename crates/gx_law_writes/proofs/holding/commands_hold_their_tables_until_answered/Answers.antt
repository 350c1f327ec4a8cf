use Rattle.gx_law_order.proofs.World.{world_knows}
use Rattle.gx_law_order.proofs.Legality.{sessions-stand}
use Rattle.gx_rules.specs.Machine.{world_of}
use Rattle.gx_law_writes.proofs.Commands.{commands-hold}
use Rattle.gx_law_locks.proofs.Orders.{world-orders}
use Rattle.gx_law_writes.proofs.Unsent.{next-unsent, world-has}
use Rattle.gx_law_order.proofs.Always.{world-holds}
use Rattle.gx_law_writes.proofs.holding.commands_hold_their_tables_until_answered.Goals as goal

pub returns : goal.returns
returns c = λ script events some. commands-hold script (world_of script events) (sessions-stand script some events) (world_knows script some events).kept (world-orders script some events).going (world-orders script some events).locked.marked.coordinator.holds (world-orders script some events).locked.marked.coordinator.waits
    (λ g n live next. next-unsent script (world_of script events) (world_knows script some events) (world-holds script some events) g n live next (world-has script some events))
