use Rattle.gx_law_lone.proofs.Leaving.{coord-left}
use Rattle.gx_law_lone.proofs.frame.rounds_leave_the_coordinator.Goals as goal

pub returns : goal.returns
returns c = λ script d event fails left. coord-left script d event fails left
