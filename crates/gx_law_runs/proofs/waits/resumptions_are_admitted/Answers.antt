use Rattle.gx_law_runs.proofs.Waiters.{who-resumes-may}
use Rattle.gx_law_runs.proofs.waits.resumptions_are_admitted.Goals as goal

pub returns : goal.returns
returns c = λ script steps node g some is place resumes. who-resumes-may script steps some is node g place resumes
