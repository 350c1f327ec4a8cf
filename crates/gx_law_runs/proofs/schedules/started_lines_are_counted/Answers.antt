use Rattle.gx_law_order.proofs.Legality.{sessions-stand}
use Rattle.gx_law_runs.proofs.schedules.started_lines_are_counted.Goals as goal

pub returns : goal.returns
returns c = λ script events session some. (sessions-stand script some events session).starts
