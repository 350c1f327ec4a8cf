use Rattle.gx_law_locks.proofs.RoundsInRuns.{rounds-held, world-rounded}
use Rattle.gx_rules.specs.Machine.{world_of}
use Rattle.gx_law_locks.proofs.rounds.what_nodes_hold_of_rounds.Goals as goal

pub returns : goal.returns
returns c = λ script events some. rounds-held script (world_of script events) (world-rounded script some events)
