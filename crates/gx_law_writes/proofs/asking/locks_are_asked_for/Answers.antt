use Rattle.gx_law_writes.proofs.AskedRuns.{world-asked}
use Rattle.gx_law_writes.proofs.asking.locks_are_asked_for.Goals as goal

pub returns : goal.returns
returns c = λ script events some numbered. world-asked script some numbered events
