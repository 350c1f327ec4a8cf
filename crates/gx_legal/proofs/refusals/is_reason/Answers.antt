use Rattle.gx_legal.proofs.Oks.{if_ok}
use Rattle.gx_legal.proofs.Reasons.{reason-is}
use Rattle.gx_legal.specs.Moments.{point_of}
use Rattle.gx_legal.proofs.refusals.is_reason.Goals as goal

pub returns : goal.returns
returns c =
    let k = c.args.command in
    if_ok c.is_cause.result (λ b h. reason-is (point_of c.args.moment.now) c.args.stmt.now k.level k.gxid k.cid c.args.reason b h) c.is_cause.ensures
