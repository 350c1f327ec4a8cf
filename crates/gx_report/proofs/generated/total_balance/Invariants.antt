use Rattle.std.proofs.Common.{◌≡◌, ◌*◌, ◌^◌, ◌≤ℤ◌, neg_ℤ, pos, take}
use Rattle.gx_report.specs.Summary.{total_balance}
use Rattle.gx_report.proofs.generated.total_balance.Given as goal

abbrev pub invariant-loop-row : goal.invariant-loop-row
invariant-loop-row l = record {
  is : l.total ≡ total_balance (take l.row-index l.rows);
  low : neg_ℤ (pos (l.row-index * 2 ^ 63)) ≤ℤ l.total;
  high : l.total ≤ℤ pos (l.row-index * 2 ^ 63);
}
