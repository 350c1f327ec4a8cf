use Rattle.gx_store.proofs.RefusedLocks.{not-behind}
use Rattle.gx_store.proofs.refused_waits.wait_behind_its_own_waiter.Goals as goal

pub returns : goal.returns
returns c = λ script held awaited wanted conflicting. not-behind script held awaited wanted conflicting
