use Rattle.std.specs.Prelude.{◌≡◌, replicate}
use Rattle.gx_groups.specs.declared.seat.Standing.TheVariants.{Idle}
use Rattle.gx_groups.proofs.making.new_standings.Given as goal

abbrev pub invariant-loop-session : goal.invariant-loop-session
invariant-loop-session l = l.standings.items ≡ replicate l._session Idle
