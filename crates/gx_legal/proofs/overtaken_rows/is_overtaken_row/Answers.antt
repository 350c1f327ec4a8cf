use Rattle.std.proofs.Common.{◌≡◌}
use Rattle.std.proofs.lemmas.Result.{IfOk-weaker}
use Rattle.gx_legal.specs.Changed.{is_overtaken}
use Rattle.gx_legal.proofs.Decided.{decided}
use Rattle.gx_legal.proofs.Overtaking.{is-overtaken, overtaken-is}
use Rattle.gx_legal.proofs.overtaken_rows.is_overtaken_row.Goals as goal

pub returns : goal.returns
returns c =
    let a = c.args in
    let k = a.command in
    IfOk-weaker c.is_overtaken.result _ _ (λ holds is. decided holds _ _
    (let same : holds ≡ is_overtaken a.marks.now k.level k.gxid k.cid a.table a.cond.now a.rid a.writer = cc (is, c.choice_of-choice.ensures.command, c.choice_of-choice.ensures.table, c.choice_of-choice.ensures.cond, c.choice_of-choice.ensures.rid) in same)
    (overtaken-is a.marks.now k.level k.gxid k.cid a.table a.cond.now a.rid a.writer) (is-overtaken a.marks.now k.level k.gxid k.cid a.table a.cond.now a.rid a.writer)) c.is_overtaken.ensures
