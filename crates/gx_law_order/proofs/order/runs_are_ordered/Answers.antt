use Rattle.gx_law_order.proofs.Ordered.{world_well}
use Rattle.gx_law_order.proofs.order.runs_are_ordered.Goals as goal

pub returns : goal.returns
returns c = λ script events some. (world_well script some events).steps
