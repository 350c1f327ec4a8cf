use Rattle.gx_store.proofs.NeverStarted.{no-history-unstarted}
use Rattle.gx_store.proofs.RefusedHistories.{no-history-undrawn}
use Rattle.gx_store.proofs.refused_histories.lines_start.Goals as goal

pub returns-clause-undrawn : goal.returns-clause-undrawn
returns-clause-undrawn c = λ script. no-history-undrawn script

pub returns-clause-never : goal.returns-clause-never
returns-clause-never c = λ script query table tuple row. no-history-unstarted script query table tuple row
