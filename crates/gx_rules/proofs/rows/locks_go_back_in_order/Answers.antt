use Rattle.gx_rules.proofs.WaitRuns as runs
use Rattle.gx_rules.proofs.rows.locks_go_back_in_order.Goals as goal

pub returns : goal.returns
returns c = runs.gives_back_in_order
