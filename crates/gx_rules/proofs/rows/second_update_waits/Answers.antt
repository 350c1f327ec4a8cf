use Rattle.gx_rules.proofs.ChangeRuns as runs
use Rattle.gx_rules.proofs.rows.second_update_waits.Goals as goal

pub returns : goal.returns
returns c = runs.second_waits
