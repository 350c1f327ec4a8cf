use Rattle.std.proofs.Common.{◌≡◌}
use Rattle.gx_law_runs.specs.Replays.{coordinator_after}
use Rattle.gx_law_runs.proofs.Reaching.{by-events}
use Rattle.gx_rules.specs.AtCoordinator.{is_unfinished_there}
use Rattle.gx_store.specs.Schedule.{is_unfinished}
use Rattle.gx_law_runs.proofs.Finishing.{replayed-alike}
use Rattle.gx_law_runs.proofs.endings.unfinished_sessions_are_unfinished_there.Goals as goal

pub returns : goal.returns
returns c = λ script steps session some numbered is. by-events script steps is (λ ss. is_unfinished script ss session ≡ is_unfinished_there script (coordinator_after script ss) session) (replayed-alike script some numbered session)
