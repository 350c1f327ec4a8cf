use Rattle.gx_locks.proofs.Ways.{held-clear}
use Rattle.gx_locks.proofs.laws.held_is_clear.Goals as goal

pub returns : goal.returns
returns c = held-clear
