use Rattle.gx_law_reads.proofs.Seeing.{world-ends}
use Rattle.gx_law_reads.proofs.runs.ends_are_the_same_everywhere.Goals as goal

pub returns : goal.returns
returns c = λ script events node g some. world-ends script some events node g
