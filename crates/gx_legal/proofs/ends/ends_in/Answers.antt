use Rattle.gx_lemmas.proofs.Tests.{false-true}
use Rattle.gx_legal.proofs.Sessions.{no-longer}
use Rattle.gx_legal.proofs.UnderWay.{line-none, line-some}
use Rattle.gx_legal.specs.Ends.{EndsWith}
use Rattle.gx_legal.specs.Moments.{point_of}
use Rattle.gx_legal.proofs.ends.ends_in.Goals as goal

pub returns-in-Some : goal.returns-in-Some
returns-in-Some c =
    let p = point_of c.args.moment.now in
    line-some c.args.moment.now.script.now p c.args.session (EndsWith c.args.moment.now.script.now p c.args.gxid c.args.how c.args.session) c.in-Some.line.now c.ends_with.result c.in-Some.ensures c.ends_with.ensures

pub returns-in-None : goal.returns-in-None
returns-in-None c =
    let p = point_of c.args.moment.now in
    (λ t. absurd (false-true t), λ of. absurd (line-none c.args.moment.now.script.now p c.args.session (EndsWith c.args.moment.now.script.now p c.args.gxid c.args.how c.args.session) c.in-None.ensures of))

pub returns-then-not-is_in : goal.returns-then-not-is_in
returns-then-not-is_in c = (λ t. absurd (false-true t), λ of. absurd (no-longer c.is_in.result c.is_in.ensures c.if-not-is_in.true of.2.transaction))
