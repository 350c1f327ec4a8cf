use Rattle.gx_rules.proofs.Runs as runs
use Rattle.gx_rules.proofs.rows.refused_promise.Goals as goal

pub returns : goal.returns
returns c = runs.refuses_promise
