use Rattle.std.proofs.Common.{◌≡◌, ◌≤◌, count_by, take}
use Rattle.gx_report.specs.Summary.{is_commit}
use Rattle.gx_report.proofs.generated.commits_in.Given as goal

abbrev pub invariant-loop-mark : goal.invariant-loop-mark
invariant-loop-mark l = (l.count ≡ count_by is_commit (take l.mark-index l.marks)) × (l.count ≤ l.mark-index)
