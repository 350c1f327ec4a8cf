use Rattle.std.proofs.Common.{sym}
use Rattle.gx_law_order.proofs.Ordered.{world_well}
use Rattle.gx_law_runs.proofs.schedules.segments_count_their_messages.Goals as goal

pub returns : goal.returns
returns c = λ script events i some one. sym ((world_well script some events).answered i one)
