use Rattle.gx_law_runs.proofs.Detecting.{rounds-now}
use Rattle.gx_law_runs.proofs.rounds.rounds_begin_where_somebody_waits.Goals as goal

pub returns : goal.returns
returns c = λ script steps some is. rounds-now script steps some is
