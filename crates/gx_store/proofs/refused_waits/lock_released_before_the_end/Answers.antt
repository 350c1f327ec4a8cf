use Rattle.gx_store.proofs.RefusedLocks.{not-before}
use Rattle.gx_store.proofs.refused_waits.lock_released_before_the_end.Goals as goal

pub returns : goal.returns
returns c = λ script node mode. not-before script node mode
