use Rattle.gx_rules.proofs.RoundRuns as runs
use Rattle.gx_rules.proofs.rows.crosswise_locks.Goals as goal

pub returns : goal.returns
returns c = runs.cancels_younger
