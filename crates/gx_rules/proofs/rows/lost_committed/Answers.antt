use Rattle.gx_rules.proofs.Runs as runs
use Rattle.gx_rules.proofs.rows.lost_committed.Goals as goal

pub returns : goal.returns
returns c = runs.finishes_lost
