use Rattle.gx_law_runs.proofs.Waiters.{may-resume-there}
use Rattle.gx_law_runs.proofs.waits.ready_waits_may_resume_at_a_segment.Goals as goal

pub returns : goal.returns
returns c = λ script steps segment g some is one. may-resume-there script steps some is segment one g
