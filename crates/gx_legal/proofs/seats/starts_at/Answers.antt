use Rattle.std.proofs.Common.{arith}
use Rattle.gx_legal.proofs.Tallying.{starts-fit}
use Rattle.gx_legal.proofs.seats.starts_at.Goals as goal

pub returns-clause-room : goal.returns-clause-room
returns-clause-room c = let m = c.args.moment.now in let few = starts-fit m.before.now in omega (arith, few, m.told.starts)
