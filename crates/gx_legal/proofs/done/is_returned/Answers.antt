use Rattle.gx_legal.proofs.Completing.{returned-is}
use Rattle.gx_legal.specs.Moments.{point_of}
use Rattle.gx_legal.proofs.done.is_returned.Goals as goal

pub returns : goal.returns
returns c = returned-is (point_of c.args.moment.now) c.args.command.gxid c.args.command.cid c.args.node c.has_heard.result c.has_heard.ensures
