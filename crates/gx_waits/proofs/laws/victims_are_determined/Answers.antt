use Rattle.gx_waits.proofs.Determined as determined
use Rattle.gx_waits.proofs.laws.victims_are_determined.Goals as goal

pub returns : goal.returns
returns c = determined.victims_are_determined
