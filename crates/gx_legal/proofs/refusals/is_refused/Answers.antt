use Rattle.gx_legal.proofs.Judged.{refused-is}
use Rattle.gx_legal.proofs.Oks.{if_ok}
use Rattle.gx_legal.specs.Moments.{point_of}
use Rattle.gx_legal.proofs.refusals.is_refused.Goals as goal

pub returns : goal.returns
returns c = if_ok c.meets_as.result (λ b h. refused-is c.args.moment.now.script.now
    (point_of c.args.moment.now) c.args.session _ c.args.moment.now.before.now c.args.line.now c.args.reason c.judge_refusal-judgement.result b
    c.standing_at.ensures.is.state c.args.moment.now.whole c.judge_refusal-judgement.ensures h) c.meets_as.ensures
