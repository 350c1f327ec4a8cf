use Rattle.gx_law_order.proofs.Whole.{world-follows}
use Rattle.gx_law_order.proofs.commit.runs_follow_the_protocol.Goals as goal

pub returns : goal.returns
returns c = λ script events some. world-follows script some events
