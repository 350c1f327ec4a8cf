use Rattle.gx_law_merge.proofs.Slotting.{starts-merged}
use Rattle.gx_law_merge.proofs.slots.merges_start_as_the_coordinator_does.Goals as goal

pub returns : goal.returns
returns c = λ script histories steps some fit merge is. starts-merged script some histories fit steps merge is
