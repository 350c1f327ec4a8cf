use Rattle.gx_law_merge.proofs.Laws.{merge-follows, merge-ordered, merge-system}
use Rattle.gx_law_merge.proofs.merged.merges_are_system_runs.Goals as goal

pub returns : goal.returns
returns c =
    record {
      system = λ script histories steps some fit merge. merge-system script some histories fit steps merge;
      ordered = λ script histories steps some fit merge. merge-ordered script some histories fit steps merge;
      follows = λ script histories steps some fit merge. merge-follows script some histories fit steps merge;
    }
