use Rattle.gx_law_order.proofs.Legality.{orders-are}
use Rattle.gx_law_order.proofs.histories.orders_are_of_their_lines.Goals as goal

pub returns : goal.returns
returns c = λ script events some numbered. orders-are script some events numbered
