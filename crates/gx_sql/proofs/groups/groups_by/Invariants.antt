use Rattle.std.proofs.Common.{◌≡◌, ◌++◌, drop}
use Rattle.gx_sql.specs.Groups.{groups_by}
use Rattle.gx_sql.proofs.groups.groups_by.Given as goal

abbrev pub invariant-loop-place : goal.invariant-loop-place
invariant-loop-place l = l.made.items ++ groups_by l.places l.place (drop l.place l.groups) ≡ groups_by l.places 0 l.groups
