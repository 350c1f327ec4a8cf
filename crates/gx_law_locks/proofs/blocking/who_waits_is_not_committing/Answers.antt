use Rattle.gx_law_locks.proofs.Committing.{world-free}
use Rattle.gx_law_locks.proofs.blocking.who_waits_is_not_committing.Goals as goal

pub returns : goal.returns
returns c = λ script events some. (world-free script some events).commits
