use Rattle.gx_law_locks.proofs.HoldsInRuns.{world-lasting}
use Rattle.gx_law_locks.proofs.holds.who_runs_holds_what_it_was_granted.Goals as goal

pub returns : goal.returns
returns c = λ script events before later some is. world-lasting script some events before later is
