use Rattle.gx_law_writes.proofs.LegalLocks.{locks-legal}
use Rattle.gx_law_writes.proofs.holding.locks_are_legal.Goals as goal

pub returns : goal.returns
returns c = λ script events some numbered. locks-legal script some numbered events
