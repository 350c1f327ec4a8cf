use Rattle.gx_law_locks.proofs.Whole.{world-rounds}
use Rattle.gx_law_locks.proofs.EachVictim.{world-names}
use Rattle.gx_law_locks.proofs.cancelled.victims_are_named_rightly.Goals as goal

pub returns : goal.returns
returns c = λ script events some. world-names script some (world-rounds script some) events
