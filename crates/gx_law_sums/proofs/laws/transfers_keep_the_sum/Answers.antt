use Rattle.gx_law_sums.proofs.Final.{drawn-kept}
use Rattle.gx_law_sums.proofs.laws.transfers_keep_the_sum.Goals as goal

pub returns : goal.returns
returns c = drawn-kept
