use Rattle.gx_law_order.proofs.Above.{world-above}
use Rattle.gx_law_order.proofs.commit.holders_are_above_horizons.Goals as goal

pub returns : goal.returns
returns c = λ script events some. world-above script some events
