use Rattle.gx_rules.proofs.QueueRuns.{waits_behind_share}
use Rattle.gx_rules.proofs.rows.writer_behind_share.Goals as goal

pub returns : goal.returns
returns c = waits_behind_share
