use Rattle.std.specs.Prelude.{[]}
use Rattle.gx_store.specs.Points.{marks_in}
use Rattle.gx_law_order.specs.Runs.{steps_after}
use Rattle.gx_law_locks.specs.Waiting.{GetsWhatItWaitsFor}
use Rattle.gx_law_locks.proofs.Lets.{LetsWait, behind-weaker, lets-get}
use Rattle.gx_law_locks.proofs.HoldsInRuns.{world-locked}
use Rattle.gx_law_locks.proofs.holds.who_waits_is_granted_what_it_waits_for.Goals as goal

pub returns : goal.returns
returns c = λ script events some. behind-weaker LetsWait GetsWhatItWaitsFor lets-get [] (marks_in (steps_after script events)) (world-locked script some events).lets
