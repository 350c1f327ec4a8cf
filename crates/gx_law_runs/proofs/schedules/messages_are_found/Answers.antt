use Rattle.gx_law_runs.proofs.World.{world-letters}
use Rattle.gx_law_runs.proofs.schedules.messages_are_found.Goals as goal

pub returns : goal.returns
returns c = λ script events from to number some. (world-letters script some events from to number).message
