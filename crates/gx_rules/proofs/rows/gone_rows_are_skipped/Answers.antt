use Rattle.gx_rules.proofs.ChangeRuns as runs
use Rattle.gx_rules.proofs.rows.gone_rows_are_skipped.Goals as goal

pub returns : goal.returns
returns c = runs.skips_gone
