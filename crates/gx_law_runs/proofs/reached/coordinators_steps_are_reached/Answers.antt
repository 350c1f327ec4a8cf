use Rattle.gx_law_runs.proofs.Reaching.{coordinator-reached}
use Rattle.gx_law_runs.proofs.reached.coordinators_steps_are_reached.Goals as goal

pub returns : goal.returns
returns c = λ script steps step is next. coordinator-reached script steps is step next
