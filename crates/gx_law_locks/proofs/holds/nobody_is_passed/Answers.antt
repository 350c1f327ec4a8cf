use Rattle.gx_store.specs.Points.{marks_in}
use Rattle.gx_law_order.specs.Runs.{steps_after}
use Rattle.gx_law_locks.proofs.HoldsInRuns.{world-locked}
use Rattle.gx_law_locks.proofs.Passing.{passing}
use Rattle.gx_law_locks.proofs.holds.nobody_is_passed.Goals as goal

pub returns : goal.returns
returns c = λ script events some. passing (marks_in (steps_after script events)) (world-locked script some events).granted
