use Rattle.gx_law_writes.proofs.World.{world-holds}
use Rattle.gx_law_writes.proofs.laws.rows_stay_where_they_are_inserted.Goals as goal

pub returns : goal.returns
returns c = λ script events some numbered. (world-holds script some numbered events).homes
