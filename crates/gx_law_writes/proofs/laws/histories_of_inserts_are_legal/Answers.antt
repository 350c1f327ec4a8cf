use Rattle.gx_law_writes.proofs.Join.{inserts-legal}
use Rattle.gx_law_writes.proofs.laws.histories_of_inserts_are_legal.Goals as goal

pub returns : goal.returns
returns c = λ script events some numbered inserting verdicts. inserts-legal script some numbered inserting events verdicts
