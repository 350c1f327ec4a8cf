use Rattle.gx_law_order.proofs.Remaining.{all-legal}
use Rattle.gx_law_order.proofs.histories.histories_are_legal_once_shown.Goals as goal

pub returns : goal.returns
returns c = λ script events some shown. all-legal script some shown events
