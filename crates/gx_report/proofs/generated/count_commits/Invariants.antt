use Rattle.std.proofs.Common.{◌≡◌, ◌*◌, ◌^◌, ◌≤◌, take, sum_by}
use Rattle.gx_report.specs.Summary.{commits_in}
use Rattle.gx_report.proofs.generated.count_commits.Given as goal

abbrev pub invariant-loop-place : goal.invariant-loop-place
invariant-loop-place l = (l.count ≡ sum_by commits_in (take l.place l.steps)) × (l.count ≤ l.place * 2 ^ 64)
