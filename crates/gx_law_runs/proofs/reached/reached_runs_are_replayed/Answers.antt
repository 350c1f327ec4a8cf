use Rattle.gx_law_runs.proofs.Reaching.{replayed}
use Rattle.gx_law_runs.proofs.reached.reached_runs_are_replayed.Goals as goal

pub returns : goal.returns
returns c = λ script steps is. replayed script steps is
