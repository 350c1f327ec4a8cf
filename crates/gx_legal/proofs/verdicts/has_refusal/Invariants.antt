use Rattle.std.proofs.Common.{◌↔◌, drop}
use Rattle.gx_legal.specs.Verdicts.{HasRefusal}
use Rattle.gx_legal.proofs.verdicts.has_refusal.Given as goal

abbrev pub invariant-loop-mark : goal.invariant-loop-mark
invariant-loop-mark l = HasRefusal l.session l.round (drop l.mark-index l.marks) ↔ HasRefusal l.session l.round l.marks
