use Rattle.std.proofs.Common.{◌≡◌, ◌-◌, ℕ, length, slice_index_or}
use Rattle.gx_locks.specs.Rack.{no_shelf}
use Rattle.gx_locks.proofs.index.make_shelves.Given as goal

abbrev pub invariant-loop-shelves : goal.invariant-loop-shelves
invariant-loop-shelves l = (n : ℕ) → slice_index_or l.shelves.items n no_shelf ≡ slice_index_or l.initial.shelves.items n no_shelf

abbrev pub decreases-loop-shelves : goal.decreases-loop-shelves
decreases-loop-shelves l = l.count - length l.shelves.items
