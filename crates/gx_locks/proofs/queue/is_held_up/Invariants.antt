use Rattle.std.proofs.Common.{◌≡◌, drop}
use Rattle.std.specs.List.{list_any}
use Rattle.gx_waits.specs.Claim.{ahead}
use Rattle.gx_locks.specs.Book.{claims_in}
use Rattle.gx_locks.specs.Queue.{holds_up}
use Rattle.gx_locks.proofs.queue.is_held_up.Given as goal

abbrev pub invariant-loop-wait : goal.invariant-loop-wait
invariant-loop-wait l =
    list_any (holds_up (claims_in l.book) l.claim) (ahead l.claim (drop l.wait-index l.waits)) ≡ list_any (holds_up (claims_in l.book) l.claim) (ahead l.claim l.waits)
