use Rattle.gx_law_answers.proofs.Segs.{segments-legal}
use Rattle.gx_law_answers.proofs.laws.segments_marks_are_legal.Goals as goal

pub returns : goal.returns
returns c = λ script events some numbered. segments-legal script some numbered events
