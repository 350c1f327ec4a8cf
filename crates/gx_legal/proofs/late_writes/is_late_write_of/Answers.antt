use Rattle.std.proofs.lemmas.Result.{IfOk-weaker}
use Rattle.gx_legal.proofs.Decided.{decided}
use Rattle.gx_legal.proofs.Lates.{is-late, late-is}
use Rattle.gx_legal.proofs.late_writes.is_late_write_of.Goals as goal

pub returns : goal.returns
returns c =
    let a = c.args in
    let k = a.command in
    IfOk-weaker c.is_late.result _ _ (λ holds same. decided holds _ _ same (late-is a.script.now a.marks.now k.gxid k.cid a.stmt.now a.row.node a.row.table a.row.rid a.image.now)
    (is-late a.script.now a.marks.now k.gxid k.cid a.stmt.now a.row.node a.row.table a.row.rid a.image.now)) c.is_late.ensures
