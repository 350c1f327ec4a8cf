use Rattle.gx_law_answers.proofs.Join.{legal}
use Rattle.gx_law_answers.proofs.Snaps.{snapshots-one}
use Rattle.gx_law_answers.proofs.Whole.{filled, keyed}
use Rattle.gx_law_locks.proofs.Whole.{world-rounds}
use Rattle.gx_law_locks.proofs.EachVictim.{world-cancels}
use Rattle.gx_law_answers.proofs.laws.every_run_is_a_legal_history.Goals as goal

pub returns : goal.returns
returns c = λ script events some numbered inserts. legal script some numbered (keyed script inserts) (snapshots-one script some) (filled script inserts) (world-cancels script some (world-rounds script some)) events
