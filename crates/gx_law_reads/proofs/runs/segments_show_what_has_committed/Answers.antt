use Rattle.gx_law_reads.proofs.Seeing.{world-shows}
use Rattle.gx_law_reads.proofs.runs.segments_show_what_has_committed.Goals as goal

pub returns : goal.returns
returns c = λ script events node table some one. world-shows script some events node table one
