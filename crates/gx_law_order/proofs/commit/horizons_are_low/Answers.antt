use Rattle.gx_law_order.proofs.Low.{world-low}
use Rattle.gx_law_order.proofs.commit.horizons_are_low.Goals as goal

pub returns : goal.returns
returns c = λ script events some. world-low script some events
