use Rattle.gx_rules.proofs.QueueRuns.{waits_behind_exclusive}
use Rattle.gx_rules.proofs.rows.reader_behind_exclusive.Goals as goal

pub returns : goal.returns
returns c = waits_behind_exclusive
