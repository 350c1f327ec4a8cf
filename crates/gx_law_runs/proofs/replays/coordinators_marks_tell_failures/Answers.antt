use Rattle.gx_law_runs.proofs.Failing.{coordinator-tells}
use Rattle.gx_law_runs.proofs.replays.coordinators_marks_tell_failures.Goals as goal

pub returns : goal.returns
returns c = λ script coordinator here fails. coordinator-tells script coordinator here fails
