use Rattle.std.proofs.Common.{◌≡◌, drop}
use Rattle.gx_locks.specs.Book.{claims_in}
use Rattle.gx_locks.specs.Queue.{with_queue}
use Rattle.gx_locks.proofs.graph.add_queue.Given as goal

abbrev pub invariant-loop-other : goal.invariant-loop-other
invariant-loop-other l =
    (l.graph.node ≡ l.initial.graph.node) × (with_queue (claims_in l.book) (drop l.other-index l.waits) l.graph.edges l.wait ≡ with_queue (claims_in l.book) l.waits l.initial.graph.edges l.wait)
