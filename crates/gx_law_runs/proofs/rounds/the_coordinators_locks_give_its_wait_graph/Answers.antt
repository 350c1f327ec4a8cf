use Rattle.gx_law_runs.proofs.Detecting.{graph-here}
use Rattle.gx_law_runs.proofs.rounds.the_coordinators_locks_give_its_wait_graph.Goals as goal

pub returns : goal.returns
returns c = λ script steps some is. graph-here script steps some is
