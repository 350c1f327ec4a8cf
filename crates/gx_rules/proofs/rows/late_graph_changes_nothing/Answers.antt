use Rattle.gx_rules.proofs.RoundRuns as runs
use Rattle.gx_rules.proofs.rows.late_graph_changes_nothing.Goals as goal

pub returns : goal.returns
returns c = runs.takes_its_own_graphs
