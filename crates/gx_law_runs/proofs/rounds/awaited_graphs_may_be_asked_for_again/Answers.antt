use Rattle.gx_law_runs.proofs.Detecting.{graph-awaited}
use Rattle.gx_law_runs.proofs.rounds.awaited_graphs_may_be_asked_for_again.Goals as goal

pub returns : goal.returns
returns c = λ script steps segment some is place. graph-awaited script steps some is segment place
