use Rattle.gx_law_merge.proofs.Merging.{coordinators-items-at-end, segments-items-at-end}
use Rattle.gx_law_merge.proofs.merged.journals_hold_the_items_of_merges.Goals as goal

pub returns : goal.returns
returns c =
    record {
      coordinator = λ script histories steps some fit merge. coordinators-items-at-end script some histories fit steps merge;
      segments = λ script histories steps node some one fit merge. segments-items-at-end script some histories fit steps merge node one;
    }
