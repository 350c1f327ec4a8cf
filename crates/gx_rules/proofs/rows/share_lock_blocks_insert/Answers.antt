use Rattle.gx_rules.proofs.WaitRuns as runs
use Rattle.gx_rules.proofs.rows.share_lock_blocks_insert.Goals as goal

pub returns : goal.returns
returns c = runs.waits_for_share
