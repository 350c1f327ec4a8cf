use Rattle.gx_law_lone.proofs.Held.{world-rows}
use Rattle.gx_law_lone.proofs.rows.who_holds_a_rows_lock_waits_there.Goals as goal

pub returns : goal.returns
returns c = λ script events node some one. world-rows script some events node.0
