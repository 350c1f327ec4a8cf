use Rattle.gx_store.proofs.RefusedLocks.{not-early}
use Rattle.gx_store.proofs.refused_waits.lock_table_answered_too_early.Goals as goal

pub returns : goal.returns
returns c = λ script mode. not-early script mode
