use Rattle.gx_legal.proofs.Hearing.{heard-before, heard-now}
use Rattle.gx_legal.proofs.Sessions.{no-longer}
use Rattle.gx_legal.specs.Moments.{point_of}
use Rattle.gx_legal.proofs.heard.has_heard.Goals as goal

pub returns-then-delivers : goal.returns-then-delivers
returns-then-delivers c =
    let r = c.args.report in
    heard-now r.gxid r.word r.from r.to (point_of c.args.moment.now) c.delivers.result c.if-delivers.true c.delivers.ensures

pub returns-else-delivers : goal.returns-else-delivers
returns-else-delivers c =
    let r = c.args.report in
    heard-before r.gxid r.word r.from r.to (point_of c.args.moment.now) c.has_heard_before.result (no-longer c.delivers.result c.delivers.ensures c.if-delivers.false) c.has_heard_before.ensures
