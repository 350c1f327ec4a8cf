use Rattle.std.proofs.Common.{◌∙◌}
use Rattle.std.proofs.lemmas.Result.{IfOk-weaker}
use Rattle.gx_legal.proofs.Gathered.{all-done}
use Rattle.gx_legal.proofs.OwnRows.{done-own}
use Rattle.gx_legal.proofs.changed.are_done.Goals as goal

pub returns : goal.returns
returns c =
    let a = c.args in
    let k = a.command in
    IfOk-weaker c.are_done_in.result _ _ (λ holds same. same ∙ all-done a.own.now k.gxid k.cid c.in_ok-done.done a.cond.now a.rows.now c.in_ok-done.ensures
    ∙ done-own k.gxid a._marks.now a.own.now c.requires k.cid a.cond.now a.rows.now) c.are_done_in.ensures
