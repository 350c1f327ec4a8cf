use Rattle.gx_dtx.specs.Table.{find_txn}
use Rattle.gx_dtx.proofs.Awaited.{none-awaits}
use Rattle.gx_dtx.proofs.laws.nothing_is_sent_again_unawaited.Goals as goal

pub returns : goal.returns
returns c = λ table g i. none-awaits (find_txn table g) i
