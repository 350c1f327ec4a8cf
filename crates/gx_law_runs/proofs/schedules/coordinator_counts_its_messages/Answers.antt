use Rattle.std.proofs.Common.{sym}
use Rattle.gx_law_order.proofs.Ordered.{world_well}
use Rattle.gx_law_runs.proofs.schedules.coordinator_counts_its_messages.Goals as goal

pub returns : goal.returns
returns c = λ script events i some. sym ((world_well script some events).sent i)
