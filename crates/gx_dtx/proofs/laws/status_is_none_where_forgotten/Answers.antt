use Rattle.gx_dtx.specs.Table.{find_txn}
use Rattle.gx_dtx.specs.Runs.{after}
use Rattle.gx_dtx.specs.Past.{past}
use Rattle.gx_dtx.proofs.History.{agrees-after}
use Rattle.gx_dtx.proofs.Promises.{status-agrees}
use Rattle.gx_dtx.proofs.laws.status_is_none_where_forgotten.Goals as goal

pub returns : goal.returns
returns c = λ calls g run. status-agrees (past g calls) (find_txn (after calls) g) (agrees-after calls g run)
