use Rattle.gx_law_runs.proofs.Enabled.{unknown-none}
use Rattle.gx_law_runs.proofs.schedules.nothing_is_awaited_before_it_begins.Goals as goal

pub returns : goal.returns
returns c = λ script events segment g some none. unknown-none script some events segment g none
