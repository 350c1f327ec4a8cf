use Rattle.std.specs.Prelude.{◌≡◌, replicate, true}
use Rattle.gx_agenda.proofs.opening.all_outside.Given as goal

abbrev pub invariant-loop-session : goal.invariant-loop-session
invariant-loop-session l = l.outside.items ≡ replicate l._session true
