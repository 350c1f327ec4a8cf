use Rattle.gx_dtx.specs.Table.{find_txn}
use Rattle.gx_dtx.specs.Runs.{after}
use Rattle.gx_dtx.specs.Past.{past}
use Rattle.gx_dtx.proofs.History.{agrees-after}
use Rattle.gx_dtx.proofs.Promises.{protocol-agrees}
use Rattle.gx_dtx.proofs.laws.protocol_is_kept.Goals as goal

pub returns : goal.returns
returns c = λ calls g run. protocol-agrees (past g calls) (find_txn (after calls) g) (agrees-after calls g run)
