use Rattle.gx_law_runs.proofs.Waiters.{waits-now}
use Rattle.gx_law_runs.proofs.waits.waits_stand_at_the_nodes.Goals as goal

pub returns : goal.returns
returns c = λ script steps some is. waits-now script steps some is
