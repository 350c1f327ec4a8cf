use Rattle.gx_rules.proofs.RoundRuns as runs
use Rattle.gx_rules.proofs.rows.round_without_a_deadlock.Goals as goal

pub returns : goal.returns
returns c = runs.finds_nobody
