use Rattle.gx_law_merge.proofs.Histories.{are-apart}
use Rattle.gx_law_merge.proofs.merged.histories_are_apart.Goals as goal

pub returns : goal.returns
returns c = are-apart
