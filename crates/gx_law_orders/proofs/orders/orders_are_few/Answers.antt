use Rattle.gx_law_orders.proofs.Paid.{orders-few}
use Rattle.gx_law_orders.proofs.orders.orders_are_few.Goals as goal

pub returns : goal.returns
returns c = λ script steps some is. orders-few script some steps is
