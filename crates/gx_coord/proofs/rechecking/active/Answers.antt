use Rattle.std.proofs.Common.{◌∙◌}
use Rattle.std.proofs.lemmas.Result.{IfOk-weaker}
use Rattle.gx_coord.proofs.Graphs.{active-same}
use Rattle.gx_coord.proofs.rechecking.active.Goals as goal

pub returns : goal.returns
returns c = IfOk-weaker c.active.result _ _ (λ active h. h ∙ active-same c.args.coord.now.dtx) c.active.ensures
