use Rattle.gx_legal.proofs.Causes.{named-is}
use Rattle.gx_legal.proofs.named.is_named.Goals as goal

pub returns : goal.returns
returns c = named-is c.args.marks.now c.args.round c.args.gxid c.names_among-is.result c.names_among-is.ensures
