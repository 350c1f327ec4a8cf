use Rattle.gx_law_runs.proofs.Going.{goes-on-or-blocked}
use Rattle.gx_law_runs.proofs.progress.unfinished_runs_go_on_unless_blocked.Goals as goal

pub returns : goal.returns
returns c = λ script steps session some numbered inserts is l unfinished nothing. goes-on-or-blocked script steps session some inserts is l unfinished nothing
