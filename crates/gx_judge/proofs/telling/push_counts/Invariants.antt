use Rattle.std.proofs.Common.{◌≡◌, ◌++◌, take}
use Rattle.std.specs.List.{flat_map}
use Rattle.gx_judge.specs.Telling.{faults_text}
use Rattle.gx_judge.proofs.telling.push_counts.Given as goal

abbrev pub invariant-loop-journal : goal.invariant-loop-journal
invariant-loop-journal l = l.text.items ≡ l.fn.text.items ++ flat_map faults_text (take l.journal-index l.journals)
