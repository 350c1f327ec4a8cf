use Rattle.std.proofs.Common.{◌≡◌, false}
use Rattle.gx_law_runs.proofs.Reaching.{by-events}
use Rattle.gx_store.specs.Schedule.{is_any_unfinished}
use Rattle.gx_law_runs.specs.Endings.{IsFinished}
use Rattle.gx_law_runs.proofs.Finishing.{whole}
use Rattle.gx_law_runs.proofs.endings.finished_runs_are_whole.Goals as goal

pub returns : goal.returns
returns c = λ script steps some numbered inside is. by-events script steps is (λ ss. is_any_unfinished script ss ≡ false → IsFinished script (record { steps = ss })) (whole script some numbered inside)
