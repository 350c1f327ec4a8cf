use Rattle.gx_law_locks.proofs.Whole.{world-rounds}
use Rattle.gx_law_locks.proofs.EachVictim.{world-legal}
use Rattle.gx_law_locks.proofs.cancelled.rounds_are_legal.Goals as goal

pub returns : goal.returns
returns c = λ script events some. world-legal script some (world-rounds script some) events
