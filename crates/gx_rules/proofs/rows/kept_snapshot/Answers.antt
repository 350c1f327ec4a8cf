use Rattle.gx_rules.proofs.Runs as runs
use Rattle.gx_rules.proofs.rows.kept_snapshot.Goals as goal

pub returns : goal.returns
returns c = runs.keeps_snapshot
