use Rattle.gx_law_progress.proofs.Runs.{let-few}
use Rattle.gx_law_progress.proofs.rounds.lone_rounds_are_few.Goals as goal

pub returns : goal.returns
returns c = λ script lets steps some numbered sessions inserts holds is a. let-few script some numbered inserts sessions lets holds steps is a
