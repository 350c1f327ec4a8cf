use Rattle.std.proofs.Common.{refl}
use Rattle.gx_dtx.specs.Table.{find_txn}
use Rattle.gx_dtx.specs.Runs.{after}
use Rattle.gx_dtx.specs.Past.{past}
use Rattle.gx_dtx.proofs.History.{agrees-after}
use Rattle.gx_dtx.proofs.Promises.{low-agrees}
use Rattle.gx_dtx.proofs.laws.horizon_is_low.Goals as goal

pub returns : goal.returns
returns c = λ calls g run. low-agrees (after calls) g (past g calls) (find_txn (after calls) g) refl (agrees-after calls g run)
