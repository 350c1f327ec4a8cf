use Rattle.gx_law_locks.proofs.HoldsInRuns.{world-writers}
use Rattle.gx_law_locks.proofs.holds.writers_hold_until_they_end.Goals as goal

pub returns : goal.returns
returns c = λ script events some. world-writers script some events
