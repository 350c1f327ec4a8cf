use Rattle.gx_law_runs.proofs.Moving.{coordinator-left}
use Rattle.gx_law_runs.proofs.replays.other_steps_leave_the_coordinator.Goals as goal

pub returns : goal.returns
returns c = λ script steps step away. coordinator-left script steps step away
