use Rattle.gx_law_runs.proofs.Detecting.{graph-there}
use Rattle.gx_law_runs.proofs.rounds.a_segments_locks_give_its_wait_graph.Goals as goal

pub returns : goal.returns
returns c = λ script steps segment some is one. graph-there script steps some is segment one
