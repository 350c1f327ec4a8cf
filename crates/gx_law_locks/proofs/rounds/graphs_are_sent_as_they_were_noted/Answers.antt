use Rattle.gx_law_locks.proofs.Reporting.{world-sends-noted}
use Rattle.gx_law_locks.proofs.rounds.graphs_are_sent_as_they_were_noted.Goals as goal

pub returns : goal.returns
returns c = λ script events some. world-sends-noted script some events
