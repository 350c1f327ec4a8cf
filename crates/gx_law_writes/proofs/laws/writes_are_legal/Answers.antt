use Rattle.gx_law_writes.proofs.World.{world-holds}
use Rattle.gx_law_writes.proofs.laws.writes_are_legal.Goals as goal

pub returns : goal.returns
returns c = λ script events some numbered. (world-holds script some numbered events).legal
