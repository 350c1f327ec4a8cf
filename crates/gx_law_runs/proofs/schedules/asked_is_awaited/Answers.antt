use Rattle.gx_law_runs.proofs.Awaited.{world-asks}
use Rattle.gx_law_runs.proofs.schedules.asked_is_awaited.Goals as goal

pub returns : goal.returns
returns c = λ script events segment g some. (world-asks script some events).asks segment g.0
