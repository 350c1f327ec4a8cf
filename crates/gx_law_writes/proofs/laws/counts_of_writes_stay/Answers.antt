use Rattle.gx_law_writes.proofs.Changes.{counts-kept}
use Rattle.gx_law_writes.proofs.laws.counts_of_writes_stay.Goals as goal

pub returns : goal.returns
returns c = λ script events later some numbered. counts-kept script some numbered events later
