use Rattle.gx_law_order.proofs.Legality.{orders-ran}
use Rattle.gx_law_order.proofs.histories.orders_were_under_way.Goals as goal

pub returns : goal.returns
returns c = λ script events some. orders-ran script some events
