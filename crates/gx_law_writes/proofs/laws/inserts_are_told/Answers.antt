use Rattle.gx_law_writes.proofs.Counted.{inserts-told}
use Rattle.gx_law_writes.proofs.laws.inserts_are_told.Goals as goal

pub returns : goal.returns
returns c = λ script events some numbered. inserts-told script some numbered events
