use Rattle.gx_law_writes.proofs.Plans.{rows-are}
use Rattle.gx_law_writes.proofs.laws.rows_are_of_their_tuples.Goals as goal

pub returns : goal.returns
returns c = λ g cid tuples rows planned. rows-are g cid 1 tuples rows planned
