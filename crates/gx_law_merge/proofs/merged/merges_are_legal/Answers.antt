use Rattle.gx_law_merge.proofs.Laws.{merge-legal}
use Rattle.gx_law_merge.proofs.merged.merges_are_legal.Goals as goal

pub returns : goal.returns
returns c = λ script histories steps some numbered inserts fit merge. merge-legal script some histories fit steps merge numbered inserts
