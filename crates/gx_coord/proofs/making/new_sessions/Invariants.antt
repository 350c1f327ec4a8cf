use Rattle.std.proofs.Common.{◌≡◌}
use Rattle.std.specs.Prelude.{replicate}
use Rattle.gx_coord.specs.Books.{fresh_session}
use Rattle.gx_coord.proofs.making.new_sessions.Given as goal

abbrev pub invariant-loop-session : goal.invariant-loop-session
invariant-loop-session l = l.sessions.items ≡ replicate l._session fresh_session
