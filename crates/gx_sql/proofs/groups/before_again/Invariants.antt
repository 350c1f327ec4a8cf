use Rattle.std.proofs.Common.{◌≡◌, ◌+◌, ◌++◌, drop}
use Rattle.gx_sql.specs.Groups.{before_standing}
use Rattle.gx_sql.specs.Held.{named}
use Rattle.gx_sql.proofs.groups.before_again.Given as goal

abbrev pub invariant-loop-count : goal.invariant-loop-count
invariant-loop-count l = l.count + before_standing l.place (named l.members.entries ++ named l.line.entries) (drop l.count l.names) ≡ before_standing l.place (named l.members.entries) l.names
