use Rattle.gx_law_locks.proofs.Whole.{world-rounds}
use Rattle.gx_law_locks.proofs.EachVictim.{world-cancels}
use Rattle.gx_law_locks.proofs.cancelled.who_is_named_is_cancelled.Goals as goal

pub returns : goal.returns
returns c = λ script events some. world-cancels script some (world-rounds script some) events
