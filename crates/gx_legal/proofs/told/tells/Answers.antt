use Rattle.std.proofs.lemmas.Result.{IfOk-weaker}
use Rattle.gx_legal.proofs.Decided.{decided}
use Rattle.gx_legal.proofs.Telling.{is-told, told-is}
use Rattle.gx_legal.proofs.told.tells.Goals as goal

pub returns : goal.returns
returns c =
    let a = c.args in
    let k = a.command in
    IfOk-weaker c.has_told.result _ _ (λ holds same. decided holds _ _ same (told-is a.script.now a.marks.now k.level k.gxid k.cid a.stmt.now a.answer.now)
    (is-told a.script.now a.marks.now k.level k.gxid k.cid a.stmt.now a.answer.now)) c.has_told.ensures
