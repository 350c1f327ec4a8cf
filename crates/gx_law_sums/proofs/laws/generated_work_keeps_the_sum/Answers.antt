use Rattle.gx_law_sums.proofs.Final.{work-kept}
use Rattle.gx_law_sums.proofs.laws.generated_work_keeps_the_sum.Goals as goal

pub returns : goal.returns
returns c = work-kept
