use Rattle.std.proofs.Common.{◌≡◌, drop}
use Rattle.gx_sql.specs.Groups.{is_group}
use Rattle.gx_sql.proofs.groups.is_group.Given as goal

abbrev pub invariant-loop-group : goal.invariant-loop-group
invariant-loop-group l = is_group l.name (drop l.group-index l.groups) ≡ is_group l.name l.groups
