use Rattle.std.proofs.Common.{◌≡◌, drop, Ok}
use Rattle.gx_sql.specs.Groups.{with_members}
use Rattle.gx_sql.specs.Held.{named}
use Rattle.gx_sql.proofs.groups.join_members.Given as goal

abbrev pub invariant-loop-name : goal.invariant-loop-name
invariant-loop-name l = with_members l.place (drop l.name-index l.names) (Ok (named l.members.entries)) ≡ with_members l.place l.names (Ok (named l.initial.members.entries))
