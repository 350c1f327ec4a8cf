use Rattle.gx_law_runs.proofs.Enabled.{enabled-there}
use Rattle.gx_law_runs.proofs.schedules.enabled_by_what_nodes_hold.Goals as goal

pub returns : goal.returns
returns c = λ script events some. enabled-there script some events
