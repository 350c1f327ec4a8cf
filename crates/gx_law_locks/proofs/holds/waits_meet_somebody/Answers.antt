use Rattle.gx_law_locks.proofs.HoldsInRuns.{world-locked}
use Rattle.gx_law_locks.proofs.holds.waits_meet_somebody.Goals as goal

pub returns : goal.returns
returns c = λ script events some. (world-locked script some events).waits
