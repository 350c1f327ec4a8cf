use Rattle.std.proofs.lemmas.Result.{IfOk-weaker}
use Rattle.gx_legal.proofs.Decided.{decided}
use Rattle.gx_legal.proofs.Skipping.{is-skip, skip-is}
use Rattle.gx_legal.proofs.skips.is_skip_of.Goals as goal

pub returns : goal.returns
returns c =
    let a = c.args in
    let k = a.command in
    IfOk-weaker c.is_skip.result _ _ (λ holds same. decided holds _ _ same (skip-is a.marks.now k.level k.gxid k.cid a.stmt.now a.rid) (is-skip a.marks.now k.level k.gxid k.cid a.stmt.now a.rid)) c.is_skip.ensures
