use Rattle.gx_law_locks.proofs.Orders.{orders-locked}
use Rattle.gx_law_locks.proofs.holds.commands_go_out_with_their_lock.Goals as goal

pub returns : goal.returns
returns c = λ script events some. orders-locked script some events
