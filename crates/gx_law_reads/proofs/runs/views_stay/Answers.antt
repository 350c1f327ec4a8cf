use Rattle.gx_law_reads.proofs.Staying.{views-stay}
use Rattle.gx_law_reads.proofs.runs.views_stay.Goals as goal

pub returns : goal.returns
returns c = λ script events later some. views-stay script some events later
