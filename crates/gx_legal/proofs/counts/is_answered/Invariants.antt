use Rattle.std.proofs.Common.{◌≡◌, drop}
use Rattle.gx_store.specs.Marks.{is_answered}
use Rattle.gx_legal.proofs.counts.is_answered.Given as goal

abbrev pub invariant-loop-mark : goal.invariant-loop-mark
invariant-loop-mark l = is_answered l.session (drop l.mark-index l.marks) ≡ is_answered l.session l.marks
