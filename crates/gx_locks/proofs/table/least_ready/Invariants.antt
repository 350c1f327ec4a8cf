use Rattle.std.proofs.Common.{◌≡◌, drop}
use Rattle.std.specs.Prelude.{None, map, filter}
use Rattle.gx_locks.specs.Book.{claims_in}
use Rattle.gx_locks.specs.Locks.{least_with}
use Rattle.gx_waits.specs.Claims.{is_clear}
use Rattle.gx_locks.proofs.table.least_ready.Given as goal

abbrev pub invariant-loop-wait : goal.invariant-loop-wait
invariant-loop-wait l =
    least_with l.least (map (λ wait. wait.gxid) (filter (is_clear (claims_in l.book) l.waits) (drop l.wait-index l.waits))) ≡ least_with None (map (λ wait. wait.gxid) (filter (is_clear (claims_in l.book) l.waits) l.waits))
