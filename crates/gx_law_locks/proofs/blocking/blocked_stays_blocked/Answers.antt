use Rattle.gx_law_locks.proofs.Lawful.{run-stays-blocked}
use Rattle.gx_law_locks.proofs.blocking.blocked_stays_blocked.Goals as goal

pub returns : goal.returns
returns c = λ script events some. run-stays-blocked script some events
