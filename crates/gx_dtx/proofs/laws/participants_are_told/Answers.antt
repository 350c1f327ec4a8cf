use Rattle.gx_dtx.specs.Table.{find_txn}
use Rattle.gx_dtx.specs.Runs.{after}
use Rattle.gx_dtx.specs.Past.{past}
use Rattle.gx_dtx.proofs.History.{agrees-after}
use Rattle.gx_dtx.proofs.Promises.{forget-agrees, abort-agrees}
use Rattle.gx_dtx.proofs.laws.participants_are_told.Goals as goal

pub returns : goal.returns
returns c = λ calls g run. record {
  forget = λ i committed there. forget-agrees (past g calls) (find_txn (after calls) g) i (agrees-after calls g run) committed there;
  abort = λ i given_up there. abort-agrees (past g calls) (find_txn (after calls) g) i (agrees-after calls g run) given_up there;
}
