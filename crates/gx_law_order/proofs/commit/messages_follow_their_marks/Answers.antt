use Rattle.gx_law_order.proofs.Always.{world-holds}
use Rattle.gx_law_order.proofs.commit.messages_follow_their_marks.Goals as goal

pub returns : goal.returns
returns c = λ script events some. (world-holds script some events).tells
