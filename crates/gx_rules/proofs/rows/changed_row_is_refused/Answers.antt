use Rattle.gx_rules.proofs.ChangeRuns as runs
use Rattle.gx_rules.proofs.rows.changed_row_is_refused.Goals as goal

pub returns : goal.returns
returns c = runs.refuses_changed
