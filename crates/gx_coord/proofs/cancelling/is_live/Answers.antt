use Rattle.std.proofs.Common.{◌∙◌}
use Rattle.gx_dtx.specs.Table.{find_txn}
use Rattle.gx_coord.specs.Turns.{is_active}
use Rattle.gx_coord.proofs.Facts.{live-status}
use Rattle.std.proofs.Common.{ap}
use Rattle.gx_coord.proofs.cancelling.is_live.Goals as goal

pub returns : goal.returns
returns c = c.is_active.ensures ∙ ap is_active c.status.ensures ∙ live-status (find_txn c.args.coord.now.dtx c.args.gxid)
