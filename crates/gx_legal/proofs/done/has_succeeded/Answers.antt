use Rattle.std.proofs.Common.{sym, ◌∙◌}
use Rattle.gx_legal.proofs.Completing.{succeeded-is}
use Rattle.gx_legal.proofs.Numbering.{number-in}
use Rattle.gx_legal.proofs.Oks.{if_ok}
use Rattle.gx_legal.specs.Moments.{point_of}
use Rattle.gx_legal.specs.Standings.{state_in}
use Rattle.gx_legal.proofs.done.has_succeeded.Goals as goal

pub has_succeeded_by-requires : goal.has_succeeded_by-requires
has_succeeded_by-requires c =
    let m = c.args.moment.now in
    number-in m.script.now (point_of m) c.args.session m.before.now c.standing_at-block.result.block m.whole c.standing_at-block.ensures.is.state c.requires

pub returns : goal.returns
returns c =
    let m = c.args.moment.now in
    if_ok c.has_succeeded_by.result (λ b h. succeeded-is c.args.moment.now.script.now (point_of m) c.args.line.now c.args.answer.now
    (state_in c.standing_at-block.result.block) m.before.now m.whole c.args.session c.standing_at-block.ensures.is.state c.in-Some.gxid b
    (sym c.is_command.ensures ∙ c.if-not-is_command.false) (sym c.transaction_at.ensures ∙ c.in-Some.is) h) c.has_succeeded_by.ensures
