use Rattle.gx_rules.proofs.WaitRuns as runs
use Rattle.gx_rules.proofs.rows.waiting_slice_is_left_alone.Goals as goal

pub returns : goal.returns
returns c = runs.is_held_up
