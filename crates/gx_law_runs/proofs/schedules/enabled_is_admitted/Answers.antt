use Rattle.gx_law_runs.proofs.Enabled.{all-admitted}
use Rattle.gx_law_runs.proofs.schedules.enabled_is_admitted.Goals as goal

pub returns : goal.returns
returns c = λ script events some. all-admitted script some events
