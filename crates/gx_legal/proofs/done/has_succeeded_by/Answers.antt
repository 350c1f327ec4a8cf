use Rattle.gx_legal.proofs.Completing.{succeeded-by}
use Rattle.gx_legal.proofs.Oks.{if_ok}
use Rattle.gx_legal.specs.Moments.{point_of}
use Rattle.gx_legal.specs.Standings.{state_in}
use Rattle.gx_legal.proofs.done.has_succeeded_by.Goals as goal

pub returns : goal.returns
returns c =
    let m = c.args.moment.now in
    if_ok c.tells.result (λ b h. succeeded-by c.args.moment.now.script.now (point_of m) c.args.line.now c.args.answer.now
    (state_in c.args.block) m.before.now m.whole c.args.gxid _ _ b c.level_in.ensures c.number_in.ensures
    (c.is_at_its_end.ensures.0 c.if-not-is_at_its_end.false) h) c.tells.ensures
