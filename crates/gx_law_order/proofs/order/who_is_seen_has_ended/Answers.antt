use Rattle.gx_law_order.proofs.World.{world_knows}
use Rattle.gx_law_order.proofs.order.who_is_seen_has_ended.Goals as goal

pub returns : goal.returns
returns c = λ script events some. (world_knows script some events).seen
