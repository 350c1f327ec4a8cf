use Rattle.std.proofs.Common.{◌≡◌, ◌≤◌, ◌++◌, take, drop, length}
use Rattle.std.specs.List.{list_any}
use Rattle.gx_sweep.specs.Swept.{is_settled, swept}
use Rattle.gx_sweep.proofs.sweeping.drop_dead.Given as goal

abbrev pub invariant-loop-place : goal.invariant-loop-place
invariant-loop-place l =
    (l.place ≤ length l.initial.versions)
    × (l.versions ≡ take l.place l.initial.versions ++ swept l.fn.map l.fn.horizon (drop l.place l.initial.versions))
    × (l.overtaken ≡ list_any (is_settled l.fn.map l.fn.horizon) (drop l.place l.initial.versions))

abbrev pub decreases-loop-place : goal.decreases-loop-place
decreases-loop-place l = l.place
