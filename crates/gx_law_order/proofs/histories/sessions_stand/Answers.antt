use Rattle.gx_law_order.proofs.Legality.{sessions-stand}
use Rattle.gx_law_order.proofs.histories.sessions_stand.Goals as goal

pub returns : goal.returns
returns c = λ script events some. sessions-stand script some events
