use Rattle.gx_rules.proofs.RoundRuns as runs
use Rattle.gx_rules.proofs.rows.verdicts_over_edges.Goals as goal

pub returns : goal.returns
returns c = runs.decides_over
