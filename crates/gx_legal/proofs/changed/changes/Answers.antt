use Rattle.std.proofs.lemmas.Result.{IfOk-weaker}
use Rattle.gx_legal.proofs.Decided.{decided}
use Rattle.gx_legal.proofs.RowsTreated.{changed-is, is-changed}
use Rattle.gx_legal.proofs.changed.changes.Goals as goal

pub returns : goal.returns
returns c =
    let a = c.args in
    let k = a.command in
    IfOk-weaker c.has_changed.result _ _ (λ holds same. decided holds _ _ same (changed-is a.marks.now k.level k.gxid k.cid a.table a.cond.now a.count)
    (is-changed a.marks.now k.level k.gxid k.cid a.table a.cond.now a.count)) c.has_changed.ensures
