use Rattle.gx_store.proofs.RefusedLocks.{not-over}
use Rattle.gx_store.proofs.refused_waits.lock_granted_over_another.Goals as goal

pub returns : goal.returns
returns c = λ script held wanted conflicting. not-over script held wanted conflicting
