use Rattle.gx_law_merge.proofs.Laws.{merge-blocked, merge-locks, merge-rounds}
use Rattle.gx_law_merge.proofs.merged.merges_have_legal_locks.Goals as goal

pub returns : goal.returns
returns c =
    record {
      locks = λ script histories steps some numbered fit merge. merge-locks script some histories fit steps merge numbered;
      rounds = λ script histories steps some fit merge. merge-rounds script some histories fit steps merge;
      blocked = λ script histories steps some fit merge. merge-blocked script some histories fit steps merge;
    }
