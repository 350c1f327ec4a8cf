use Rattle.gx_store.proofs.RefusedLocks.{not-past}
use Rattle.gx_store.proofs.refused_waits.lock_granted_past_a_wait.Goals as goal

pub returns : goal.returns
returns c = λ script held awaited wanted conflicting. not-past script held awaited wanted conflicting
