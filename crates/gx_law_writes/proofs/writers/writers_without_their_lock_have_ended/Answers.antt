use Rattle.gx_law_locks.proofs.HoldsInRuns.{world-locked}
use Rattle.gx_law_writes.proofs.Ended.{writer-ended}
use Rattle.gx_law_writes.proofs.writers.writers_without_their_lock_have_ended.Goals as goal
use Rattle.gx_rules.specs.Machine.{world_of}

pub returns : goal.returns
returns c = λ script events some node g one wrote free. writer-ended script (world_of script events) (world-locked script some events) node.0 one g wrote free
