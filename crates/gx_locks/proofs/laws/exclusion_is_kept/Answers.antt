use Rattle.gx_locks.proofs.Runs.{IsSound-run}
use Rattle.gx_locks.proofs.laws.exclusion_is_kept.Goals as goal

pub returns : goal.returns
returns c = IsSound-run
