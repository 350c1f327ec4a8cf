use Rattle.gx_law_locks.proofs.Asking.{world-ends}
use Rattle.gx_law_locks.proofs.rounds.rounds_end_with_their_last_graph.Goals as goal

pub returns : goal.returns
returns c = λ script events some. world-ends script some events
