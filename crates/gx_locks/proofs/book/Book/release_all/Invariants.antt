use Rattle.std.proofs.Common.{drop}
use Rattle.gx_locks.specs.Index.{IsTidy}
use Rattle.gx_locks.proofs.Emptied.{IsEmptied}
use Rattle.gx_locks.proofs.book.Book.release_all.Given as goal

abbrev pub invariant-loop-hold : goal.invariant-loop-hold
invariant-loop-hold l = IsEmptied l.fn.gxid l.initial.self l.self (drop l.hold-index l.hold-items) × (IsTidy l.initial.self.index → IsTidy l.self.index)
