use Rattle.gx_law_order.proofs.Journals.{journal-holds}
use Rattle.gx_law_order.proofs.order.journals_hold_their_items.Goals as goal

pub returns : goal.returns
returns c = λ script events node some. journal-holds script some node.0 events
