use Rattle.gx_law_order.proofs.Numbered.{starts-numbered}
use Rattle.gx_law_order.proofs.order.transactions_are_numbered.Goals as goal

pub returns : goal.returns
returns c = λ script events some. starts-numbered script some events
