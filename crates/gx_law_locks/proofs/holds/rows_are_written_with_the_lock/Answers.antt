use Rattle.gx_law_locks.proofs.Orders.{world-orders}
use Rattle.gx_law_locks.proofs.holds.rows_are_written_with_the_lock.Goals as goal

pub returns : goal.returns
returns c = λ script events some. (world-orders script some events).writes
