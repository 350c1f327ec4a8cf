use Rattle.gx_law_runs.proofs.Busy.{busy-awaits}
use Rattle.gx_law_runs.proofs.progress.busy_sessions_await_an_answer_or_a_lock.Goals as goal

pub returns : goal.returns
returns c = λ script events session some inserts idle. busy-awaits script some inserts events session idle
