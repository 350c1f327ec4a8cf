use Rattle.std.specs.Prelude.{◌≡◌, drop}
use Rattle.gx_store.specs.Marks.{is_answered}
use Rattle.gx_agenda.proofs.opening.is_answered.Given as goal

abbrev pub invariant-loop-mark : goal.invariant-loop-mark
invariant-loop-mark l = is_answered l.session (drop l.mark-index l.marks) ≡ is_answered l.session l.marks
