use Rattle.gx_locks.specs.Index.{holds_at}
use Rattle.gx_locks.proofs.Entered.{undone}
use Rattle.gx_locks.proofs.index.Index.enter.Goals as goal

pub returns-in-Err-clause-err : goal.returns-in-Err-clause-err
returns-in-Err-clause-err c =
    undone c.args.hold (holds_at c.args.self.now) (holds_at c.add.new.self) (holds_at c.add-2.new.self) (holds_at c.strike.new.self) c.requires c.in_ok-add.ensures.there c.in_ok-add.ensures.elsewhere c.in-Err.ensures.err c.in-Err.ensures.elsewhere c.strike.ensures.there c.strike.ensures.elsewhere
