use Rattle.gx_rules.proofs.RoundRuns as runs
use Rattle.gx_rules.proofs.rows.every_segment_reports.Goals as goal

pub returns : goal.returns
returns c = runs.awaits_each
