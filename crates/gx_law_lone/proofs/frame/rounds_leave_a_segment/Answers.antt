use Rattle.gx_law_lone.proofs.Leaving.{seg-left}
use Rattle.gx_law_lone.proofs.frame.rounds_leave_a_segment.Goals as goal

pub returns : goal.returns
returns c = λ script s event fails left. seg-left script s event fails left
