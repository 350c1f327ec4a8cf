use Rattle.gx_rules.proofs.Runs as runs
use Rattle.gx_rules.proofs.rows.repeated_exec.Goals as goal

pub returns : goal.returns
returns c = runs.runs_once
