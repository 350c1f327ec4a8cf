use Rattle.gx_law_answers.proofs.Join.{system-legal}
use Rattle.gx_law_answers.proofs.Snaps.{snapshots-one}
use Rattle.gx_law_answers.proofs.Whole.{filled, keyed}
use Rattle.gx_law_locks.proofs.Whole.{world-rounds}
use Rattle.gx_law_locks.proofs.EachVictim.{world-cancels}
use Rattle.gx_law_answers.proofs.laws.every_system_run_is_a_legal_history.Goals as goal

pub returns : goal.returns
returns c = λ script run some numbered inserts system. system-legal script some numbered (keyed script inserts) (snapshots-one script some) (filled script inserts) (world-cancels script some (world-rounds script some)) run system
