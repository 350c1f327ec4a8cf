use Rattle.gx_rules.proofs.QueueRuns.{cancels_through_queue}
use Rattle.gx_rules.proofs.rows.deadlock_through_a_queue.Goals as goal

pub returns : goal.returns
returns c = cancels_through_queue
