use Rattle.gx_law_locks.proofs.HoldsInRuns.{world-exclusive}
use Rattle.gx_law_locks.proofs.holds.locks_are_exclusive.Goals as goal

pub returns : goal.returns
returns c = λ script events before later some is. world-exclusive script some events before later is
