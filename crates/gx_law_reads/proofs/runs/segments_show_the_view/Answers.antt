use Rattle.gx_law_reads.proofs.Seeing.{world-views}
use Rattle.gx_law_reads.proofs.runs.segments_show_the_view.Goals as goal

pub returns : goal.returns
returns c = λ script events some. world-views script some events
