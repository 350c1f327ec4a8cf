use Rattle.gx_law_progress.proofs.Runs.{grouped-few}
use Rattle.gx_law_progress.proofs.rounds.lone_rounds_beside_groups_are_few.Goals as goal

pub returns : goal.returns
returns c = λ script steps language inserts is a. grouped-few script language inserts steps is a
