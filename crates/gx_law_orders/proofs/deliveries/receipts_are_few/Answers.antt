use Rattle.gx_law_orders.proofs.Receipts.{receipts-few}
use Rattle.gx_law_orders.proofs.deliveries.receipts_are_few.Goals as goal

pub returns : goal.returns
returns c = λ script steps each from to. receipts-few script from to steps each
