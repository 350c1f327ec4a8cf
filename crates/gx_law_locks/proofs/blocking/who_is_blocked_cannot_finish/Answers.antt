use Rattle.gx_law_locks.proofs.Persisting.{is-blocked-for-good}
use Rattle.gx_law_locks.proofs.blocking.who_is_blocked_cannot_finish.Goals as goal

pub returns : goal.returns
returns c = is-blocked-for-good
