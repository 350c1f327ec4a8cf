use Rattle.std.specs.Prelude.{◌≡◌, drop}
use Rattle.gx_groups.specs.Slots.{has}
use Rattle.gx_agenda.proofs.grouping.is_among.Given as goal

abbrev pub invariant-loop-other : goal.invariant-loop-other
invariant-loop-other l = has l.session (drop l.other-index l.sessions) ≡ has l.session l.sessions
