use Rattle.gx_law_runs.proofs.Resuming.{reached-there}
use Rattle.gx_law_runs.proofs.progress.the_least_ready_wait_resumes_at_a_segment.Goals as goal

pub returns : goal.returns
returns c = λ script steps i some is one. reached-there script some steps is i one
