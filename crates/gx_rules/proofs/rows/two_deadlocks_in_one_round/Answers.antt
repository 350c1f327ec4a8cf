use Rattle.gx_rules.proofs.RoundRuns as runs
use Rattle.gx_rules.proofs.rows.two_deadlocks_in_one_round.Goals as goal

pub returns : goal.returns
returns c = runs.cancels_both
