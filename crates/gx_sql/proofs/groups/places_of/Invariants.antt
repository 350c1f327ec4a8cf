use Rattle.std.proofs.Common.{◌≡◌, ◌++◌, drop}
use Rattle.gx_sql.specs.Groups.{places_among}
use Rattle.gx_sql.specs.Held.{named}
use Rattle.gx_sql.proofs.groups.places_of.Given as goal

abbrev pub invariant-loop-name : goal.invariant-loop-name
invariant-loop-name l = l.places.items ++ places_among (named l.members.entries) (drop l.name-index l.names) ≡ places_among (named l.members.entries) l.names
