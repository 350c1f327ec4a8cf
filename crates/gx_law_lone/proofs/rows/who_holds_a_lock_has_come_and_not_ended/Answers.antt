use Rattle.gx_law_lone.proofs.Held.{world-runs}
use Rattle.gx_law_lone.proofs.rows.who_holds_a_lock_has_come_and_not_ended.Goals as goal

pub returns : goal.returns
returns c = λ script events node some. world-runs script some events node.0
