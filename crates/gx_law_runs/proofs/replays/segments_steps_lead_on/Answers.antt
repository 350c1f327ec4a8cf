use Rattle.gx_law_runs.proofs.Leading.{segment-leads}
use Rattle.gx_law_runs.proofs.replays.segments_steps_lead_on.Goals as goal

pub returns : goal.returns
returns c = λ script events step next. segment-leads script events step next
