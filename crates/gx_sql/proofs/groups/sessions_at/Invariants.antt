use Rattle.std.proofs.Common.{◌≡◌, ◌++◌, drop}
use Rattle.gx_sql.specs.Groups.{sessions_by}
use Rattle.gx_sql.proofs.groups.sessions_at.Given as goal

abbrev pub invariant-loop-number : goal.invariant-loop-number
invariant-loop-number l = l.sessions.items ++ sessions_by l.place l.number (drop l.number l.places) ≡ sessions_by l.place 0 l.places
