use Rattle.gx_law_merge.proofs.OneMerge.{merge-one}
use Rattle.gx_law_merge.proofs.merged.merges_are_one.Goals as goal

pub returns : goal.returns
returns c = merge-one
