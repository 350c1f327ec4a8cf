use Rattle.std.proofs.Common.{◌≡◌, ◌++◌, drop}
use Rattle.gx_locks.specs.Book.{claims_in}
use Rattle.gx_locks.specs.Locks.{blockers}
use Rattle.gx_locks.specs.Queue.{queue_of}
use Rattle.gx_locks.proofs.queue.push_queue.Given as goal

abbrev pub invariant-loop-wait : goal.invariant-loop-wait
invariant-loop-wait l =
    l.gxids.items ++ blockers (queue_of (claims_in l.book) (drop l.wait-index l.waits) l.claim) l.claim ≡ l.initial.gxids.items ++ blockers (queue_of (claims_in l.book) l.waits l.claim) l.claim
