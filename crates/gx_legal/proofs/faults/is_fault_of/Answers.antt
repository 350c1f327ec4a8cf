use Rattle.std.proofs.lemmas.Result.{IfOk-weaker}
use Rattle.gx_legal.proofs.Decided.{decided}
use Rattle.gx_legal.proofs.RowFaults.{fault-stmt, stmt-fault}
use Rattle.gx_legal.proofs.faults.is_fault_of.Goals as goal

pub returns : goal.returns
returns c =
    let a = c.args in
    let k = a.command in
    IfOk-weaker c.is_stmt_fault.result _ _ (λ holds same. decided holds _ _ same (stmt-fault a.marks.now k.level k.gxid k.cid a.stmt.now a.rid a.image.now a.fault)
    (fault-stmt a.marks.now k.level k.gxid k.cid a.stmt.now a.rid a.image.now a.fault)) c.is_stmt_fault.ensures
