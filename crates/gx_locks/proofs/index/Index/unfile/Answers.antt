use Rattle.std.proofs.Common.{filter, not}
use Rattle.gx_locks.specs.Holds.{same_hold}
use Rattle.gx_locks.specs.Index.{holds_at}
use Rattle.gx_locks.proofs.Keys.{both_under}
use Rattle.gx_locks.proofs.index.Index.unfile.Goals as goal

pub returns-clause-there : goal.returns-clause-there
returns-clause-there c =
    both_under c.args.hold.now.claim (filter (λ other. not (same_hold c.args.hold.now other))) (holds_at c.args.self.now) (holds_at c.strike.new.self) (holds_at c.strike-2.new.self) c.strike.ensures.there c.strike.ensures.elsewhere c.strike-2.ensures.there c.strike-2.ensures.elsewhere
