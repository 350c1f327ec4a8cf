use Rattle.gx_rules.proofs.WaitRuns as runs
use Rattle.gx_rules.proofs.rows.slice_waits_for_forget.Goals as goal

pub returns : goal.returns
returns c = runs.waits_for_forget
