use Rattle.gx_dtx.proofs.Over.{over-for-good}
use Rattle.gx_dtx.proofs.laws.over_is_over.Goals as goal

pub returns : goal.returns
returns c = over-for-good
