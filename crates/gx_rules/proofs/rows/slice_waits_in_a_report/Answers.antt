use Rattle.gx_rules.proofs.RoundRuns as runs
use Rattle.gx_rules.proofs.rows.slice_waits_in_a_report.Goals as goal

pub returns : goal.returns
returns c = runs.reports_its_wait
