use Rattle.std.specs.Prelude.{[]}
use Rattle.gx_store.specs.Points.{marks_in}
use Rattle.gx_law_order.specs.Runs.{steps_after}
use Rattle.gx_law_locks.specs.Waiting.{WaitsForEnd}
use Rattle.gx_law_locks.proofs.Lets.{LetsWait, behind-weaker, lets-end}
use Rattle.gx_law_locks.proofs.HoldsInRuns.{world-locked}
use Rattle.gx_law_locks.proofs.holds.waits_for_ends_are_shared.Goals as goal

pub returns : goal.returns
returns c = λ script events some. behind-weaker LetsWait WaitsForEnd lets-end [] (marks_in (steps_after script events)) (world-locked script some events).lets
