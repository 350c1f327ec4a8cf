use Rattle.gx_law_runs.proofs.Resuming.{reached-here}
use Rattle.gx_law_runs.proofs.progress.the_least_ready_wait_resumes_at_the_coordinator.Goals as goal

pub returns : goal.returns
returns c = λ script steps some is. reached-here script some steps is
