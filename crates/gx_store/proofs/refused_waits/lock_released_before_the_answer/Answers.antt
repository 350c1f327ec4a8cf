use Rattle.gx_store.proofs.ReleasedEarly.{no-locks}
use Rattle.gx_store.proofs.refused_waits.lock_released_before_the_answer.Goals as goal

pub returns : goal.returns
returns c = λ script query snapshot. no-locks script query snapshot
