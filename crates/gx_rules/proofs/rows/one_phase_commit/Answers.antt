use Rattle.gx_rules.proofs.Runs as runs
use Rattle.gx_rules.proofs.rows.one_phase_commit.Goals as goal

pub returns : goal.returns
returns c = runs.commits_by_one
