use Rattle.std.proofs.lemmas.Result.{IfOk-weaker}
use Rattle.gx_legal.proofs.Decided.{decided}
use Rattle.gx_legal.proofs.Insertions.{of-write, write-of}
use Rattle.gx_legal.proofs.writes.is_write_of.Goals as goal

pub returns : goal.returns
returns c =
    let a = c.args in
    let k = a.command in
    IfOk-weaker c.is_write.result _ _ (λ holds same. decided holds _ _ same (write-of a.script.now a.marks.now k.level k.gxid k.cid a.stmt.now a.row.node a.row.table a.row.rid a.image.now)
    (of-write a.script.now a.marks.now k.level k.gxid k.cid a.stmt.now a.row.node a.row.table a.row.rid a.image.now)) c.is_write.ensures
