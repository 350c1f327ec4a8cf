use Rattle.gx_law_locks.proofs.Whole.{world-rounds}
use Rattle.gx_law_locks.proofs.rounds.rounds_are_as_defined.Goals as goal

pub returns : goal.returns
returns c = λ script events some. world-rounds script some events
