use Rattle.gx_law_runs.proofs.Enabled.{drawn-alike}
use Rattle.gx_law_runs.proofs.schedules.begun_are_drawn.Goals as goal

pub returns : goal.returns
returns c = λ script events some. drawn-alike script some events
