use Rattle.gx_law_runs.proofs.Failing.{segment-tells}
use Rattle.gx_law_runs.proofs.replays.segments_marks_tell_failures.Goals as goal

pub returns : goal.returns
returns c = λ script seg here fails. segment-tells script seg here fails
