use Rattle.gx_law_runs.proofs.Going.{stuck-without-detector}
use Rattle.gx_law_runs.proofs.progress.stuck_runs_have_no_detector.Goals as goal

pub returns : goal.returns
returns c = λ script steps session some inserts is l unfinished nothing. stuck-without-detector script steps session some inserts is l unfinished nothing
