use Rattle.gx_legal.proofs.Judged.{reply-is}
use Rattle.gx_legal.proofs.Oks.{if_ok}
use Rattle.gx_legal.specs.Moments.{point_of}
use Rattle.gx_legal.proofs.answers.is_judged_reply.Goals as goal

pub returns : goal.returns
returns c = if_ok c.meets.result (λ b h. reply-is c.args.moment.now.script.now
    (point_of c.args.moment.now) c.args.session _ c.args.moment.now.before.now c.args.line.now c.args.answer.now c.judge-judgement.result b
    c.standing_at.ensures.is.state c.args.moment.now.whole c.requires.reply c.judge-judgement.ensures h) c.meets.ensures
