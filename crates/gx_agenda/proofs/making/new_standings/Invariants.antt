use Rattle.std.proofs.Common.{◌≡◌}
use Rattle.std.specs.Prelude.{replicate}
use Rattle.gx_agenda.specs.FreshQueue.{new_standing}
use Rattle.gx_agenda.proofs.making.new_standings.Given as goal

abbrev pub invariant-loop-session : goal.invariant-loop-session
invariant-loop-session l = l.standings.items ≡ replicate l._session new_standing
