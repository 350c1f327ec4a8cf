use Rattle.std.proofs.Common.{◌∙◌}
use Rattle.std.proofs.lemmas.Result.{IfOk-weaker}
use Rattle.gx_legal.proofs.OwnRows.{inserted-own}
use Rattle.gx_legal.proofs.writes.is_own_inserted.Goals as goal

pub returns : goal.returns
returns c =
    let a = c.args in
    let k = a.command in
    IfOk-weaker c.is_inserted.result _ _ (λ holds same. same ∙ inserted-own k.gxid a._marks.now a.own.now c.requires.own a.script.now k.cid a.table a.tuples.now a.row.node a.row.rid a.image.now) c.is_inserted.ensures
