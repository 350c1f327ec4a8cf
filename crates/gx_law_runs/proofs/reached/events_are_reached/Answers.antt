use Rattle.gx_law_runs.proofs.Reaching.{event-reached}
use Rattle.gx_law_runs.proofs.reached.events_are_reached.Goals as goal

pub returns : goal.returns
returns c = λ script steps event fails is. event-reached script steps is event fails
