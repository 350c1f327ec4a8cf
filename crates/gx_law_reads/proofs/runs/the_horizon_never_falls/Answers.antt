use Rattle.gx_law_reads.proofs.Staying.{has-risen}
use Rattle.gx_law_reads.proofs.runs.the_horizon_never_falls.Goals as goal

pub returns : goal.returns
returns c = λ script events later some. has-risen script some events later
