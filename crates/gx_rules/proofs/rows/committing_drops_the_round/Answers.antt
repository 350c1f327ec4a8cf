use Rattle.gx_rules.proofs.RoundRuns as runs
use Rattle.gx_rules.proofs.rows.committing_drops_the_round.Goals as goal

pub returns : goal.returns
returns c = runs.drops_the_round
