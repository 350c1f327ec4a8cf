use Rattle.gx_rules.proofs.RoundRuns as runs
use Rattle.gx_rules.proofs.rows.deadlock_over_two_nodes.Goals as goal

pub returns : goal.returns
returns c = runs.gathers_reports
