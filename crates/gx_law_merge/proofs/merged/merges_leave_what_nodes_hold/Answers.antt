use Rattle.gx_law_merge.proofs.Merging.{coordinator-at-end, segment-at-end}
use Rattle.gx_law_merge.proofs.merged.merges_leave_what_nodes_hold.Goals as goal

pub returns : goal.returns
returns c =
    record {
      coordinator = λ script histories steps some fit merge. coordinator-at-end script some histories fit steps merge;
      segments = λ script histories steps node some one fit merge. segment-at-end script some histories fit steps merge node one;
    }
