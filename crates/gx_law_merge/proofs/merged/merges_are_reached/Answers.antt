use Rattle.gx_law_merge.proofs.Merging.{merge-reached}
use Rattle.gx_law_merge.proofs.merged.merges_are_reached.Goals as goal

pub returns : goal.returns
returns c = λ script histories steps some fit merge. merge-reached script some histories fit steps merge
