use Rattle.gx_law_runs.proofs.Reaching.{segment-reached}
use Rattle.gx_law_runs.proofs.reached.segments_steps_are_reached.Goals as goal

pub returns : goal.returns
returns c = λ script steps step is next. segment-reached script steps is step next
