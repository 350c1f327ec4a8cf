use Rattle.std.proofs.Common.{[], subst}
use Rattle.gx_law_locks.specs.Waiting.{EachBehind}
use Rattle.gx_law_locks.proofs.Lets.{behind-front}
use Rattle.gx_law_locks.proofs.Fair.{IsFair}
use Rattle.gx_law_locks.proofs.Lawful.{run-fair}
use Rattle.gx_law_locks.proofs.Persisting.{is-stuck-blocked}
use Rattle.gx_law_locks.proofs.blocking.what_is_stuck_by_reports_is_blocked.Goals as goal

pub returns : goal.returns
returns c = λ script events before later some split. is-stuck-blocked before (behind-front IsFair [] before later (subst (EachBehind IsFair []) split (run-fair script some events)))
