use Rattle.gx_law_locks.proofs.Whole.{system-rounds}
use Rattle.gx_law_locks.proofs.rounds.rounds_of_every_system_run_are_as_defined.Goals as goal

pub returns : goal.returns
returns c = λ script run some system. system-rounds script some run system
