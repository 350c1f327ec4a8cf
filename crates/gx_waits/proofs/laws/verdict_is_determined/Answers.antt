use Rattle.gx_waits.proofs.Determined as determined
use Rattle.gx_waits.proofs.laws.verdict_is_determined.Goals as goal

pub returns : goal.returns
returns c = determined.verdict_is_determined
