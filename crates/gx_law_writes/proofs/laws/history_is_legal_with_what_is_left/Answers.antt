use Rattle.gx_law_writes.proofs.Left.{legal-with-left}
use Rattle.gx_law_writes.proofs.laws.history_is_legal_with_what_is_left.Goals as goal

pub returns : goal.returns
returns c = λ script events some numbered left. legal-with-left script some numbered events left
