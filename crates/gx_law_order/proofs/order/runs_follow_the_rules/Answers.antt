use Rattle.gx_law_order.proofs.Follows.{world_follows}
use Rattle.gx_law_order.proofs.order.runs_follow_the_rules.Goals as goal

pub returns : goal.returns
returns c = λ script events some. world_follows script some events
