use Rattle.gx_locks.proofs.Tidy.{tidy_but}
use Rattle.gx_locks.proofs.index.Index.strike.Goals as goal

pub returns-clause-tidy : goal.returns-clause-tidy
returns-clause-tidy c = λ was. c.tidy.ensures.tidy (tidy_but c.args.key c.args.self.now c.strike_there.new.self c.strike_there.ensures.left was)
