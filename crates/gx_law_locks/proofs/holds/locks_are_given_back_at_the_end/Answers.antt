use Rattle.gx_law_locks.proofs.HoldsInRuns.{world-locked}
use Rattle.gx_law_locks.proofs.holds.locks_are_given_back_at_the_end.Goals as goal

pub returns : goal.returns
returns c = λ script events some. (world-locked script some events).late
