use Rattle.std.proofs.Common.{◌≡◌, ◌++◌, drop}
use Rattle.gx_groups.specs.Table.{fresh_groups}
use Rattle.gx_groups.proofs.making.new_groups.Given as goal

abbrev pub invariant-loop-place : goal.invariant-loop-place
invariant-loop-place l = l.groups.items ++ fresh_groups l.of l.place (drop l.place l.limits) ≡ fresh_groups l.of 0 l.limits
