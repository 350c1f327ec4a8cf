use Rattle.gx_law_order.proofs.Legality.{events-legal}
use Rattle.gx_law_order.proofs.histories.events_are_legal.Goals as goal

pub returns : goal.returns
returns c = λ script events some. events-legal script some events
