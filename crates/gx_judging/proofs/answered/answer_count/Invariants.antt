use Rattle.std.proofs.Common.{◌≡◌, ◌+◌, ◌≤◌, drop}
use Rattle.gx_store.specs.Marks.{answer_count}
use Rattle.gx_judging.proofs.answered.answer_count.Given as goal

abbrev pub invariant-loop-mark : goal.invariant-loop-mark
invariant-loop-mark l = record {
  is : l.count + answer_count l.session (drop l.mark-index l.marks) ≡ answer_count l.session l.marks;
  room : l.count ≤ l.mark-index;
}
