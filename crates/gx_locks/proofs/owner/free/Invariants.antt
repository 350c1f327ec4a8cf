use Rattle.std.proofs.Common.{◌≡◌, ◌≢◌}
use Rattle.gx_ids.specs.declared.ids.Gxid.{Gxid}
use Rattle.gx_locks.specs.Owners.{owner_in}
use Rattle.gx_locks.proofs.Owned.{live}
use Rattle.gx_locks.proofs.owner.free.Given as goal

abbrev pub invariant-loop-place : goal.invariant-loop-place
invariant-loop-place l = (g : Gxid) → g ≢ l.gxid → owner_in l.owners.items g ≡ owner_in l.fn.owners.items g

abbrev pub decreases-loop-place : goal.decreases-loop-place
decreases-loop-place l = live l.owners.items
