use Rattle.std.proofs.Common.{◌≡◌, ◌++◌, take}
use Rattle.gx_copies.proofs.push_marks.Given as goal

abbrev pub invariant-loop-mark : goal.invariant-loop-mark
invariant-loop-mark l = l.all.items ≡ l.initial.all.items ++ take l.mark-index l.marks
