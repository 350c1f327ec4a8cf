use Rattle.gx_law_progress.proofs.Runs.{rounds-few}
use Rattle.gx_law_progress.proofs.rounds.rounds_that_find_victims_are_few.Goals as goal

pub returns : goal.returns
returns c = λ script lets steps numbered history finds. rounds-few script lets steps numbered history finds
