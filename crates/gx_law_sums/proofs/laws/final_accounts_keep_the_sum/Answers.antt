use Rattle.gx_law_sums.proofs.Final.{work-ends}
use Rattle.gx_law_sums.proofs.laws.final_accounts_keep_the_sum.Goals as goal

pub returns : goal.returns
returns c = work-ends
