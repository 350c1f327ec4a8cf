use Rattle.gx_law_order.proofs.Legality.{orders-alive}
use Rattle.gx_law_order.proofs.histories.orders_are_under_way.Goals as goal

pub returns : goal.returns
returns c = λ script events some. orders-alive script some events
