use Rattle.std.specs.Prelude.{[]}
use Rattle.gx_law_writes.proofs.World.{world-holds}
use Rattle.gx_law_locks.proofs.Orders.{world-orders}
use Rattle.gx_law_writes.proofs.Writes.{under-steps}
use Rattle.gx_rules.specs.Machine.{world_of}
use Rattle.gx_law_writes.proofs.holding.rows_are_written_with_the_lock_unless_aborted.Goals as goal

pub returns : goal.returns
returns c = λ script events some numbered. under-steps script [] (world_of script events).steps (world-holds script some numbered events).legal (world-orders script some events).writes
