use Rattle.std.proofs.Common.{◌≤◌, length}
use Rattle.gx_store.specs.Marks.{answer_count}
use Rattle.gx_store.specs.Points.{marks_in, starts_in}
use Rattle.gx_law_runs.proofs.Reaching.{by-events}
use Rattle.gx_law_runs.proofs.Finishing.{room}
use Rattle.gx_law_runs.proofs.endings.lines_have_room.Goals as goal

pub returns : goal.returns
returns c = λ script steps session some is. by-events script steps is (λ ss. (answer_count session (marks_in ss) ≤ starts_in session ss) × (starts_in session ss ≤ length ss)) (room script some session)
