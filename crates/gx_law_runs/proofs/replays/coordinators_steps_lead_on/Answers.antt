use Rattle.gx_law_runs.proofs.Leading.{coordinator-leads}
use Rattle.gx_law_runs.proofs.replays.coordinators_steps_lead_on.Goals as goal

pub returns : goal.returns
returns c = λ script events step next. coordinator-leads script events step next
