use Rattle.gx_law_order.proofs.Always.{world-meant}
use Rattle.gx_law_order.proofs.commit.messages_mean_what_they_say.Goals as goal

pub returns : goal.returns
returns c = λ script events some. world-meant script some events
