use Rattle.gx_locks.specs.Index.{holds_at}
use Rattle.gx_locks.proofs.Entered.{fresh-filed}
use Rattle.gx_locks.proofs.book.Book.add.Goals as goal

pub enter-requires : goal.enter-requires
enter-requires c = fresh-filed c.in_ok-hold.hold (holds_at c.args.self.now.index) c.args.self.now.ledger.holds c.requires c.in_ok-hold.ensures.fresh
