use Rattle.gx_law_locks.proofs.Asking.{world-asks}
use Rattle.gx_law_locks.proofs.rounds.rounds_ask_each_segment.Goals as goal

pub returns : goal.returns
returns c = λ script events some. world-asks script some events
