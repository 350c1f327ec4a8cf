use Rattle.gx_law_writes.proofs.Stands.{world-stands}
use Rattle.gx_law_writes.proofs.laws.rows_stand_where_they_are_told_of.Goals as goal

pub returns : goal.returns
returns c = λ script events some numbered. world-stands script some numbered events
