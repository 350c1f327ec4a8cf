use Rattle.gx_law_locks.proofs.Whole.{world-rounds}
use Rattle.gx_law_locks.proofs.EachVictim.{world-stands}
use Rattle.gx_law_locks.proofs.cancelled.stuck_waits_stand.Goals as goal

pub returns : goal.returns
returns c = λ script events some. world-stands script some (world-rounds script some) events
