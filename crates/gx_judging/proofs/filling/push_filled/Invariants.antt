use Rattle.std.proofs.Common.{◌≡◌, ◌++◌, map, take}
use Rattle.gx_judging.specs.Answers.{answer_at, cause_at}
use Rattle.gx_judging.specs.Filled.{filled_mark}
use Rattle.gx_judging.proofs.filling.push_filled.Given as goal

abbrev pub invariant-loop-mark : goal.invariant-loop-mark
invariant-loop-mark l = l.all.items ≡ l.initial.all.items ++ map (filled_mark (answer_at l.answers) (cause_at l.causes)) (take l.mark-index l.marks)
