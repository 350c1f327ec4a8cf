use Rattle.std.proofs.Common.{length}
use Rattle.gx_node.proofs.rows.+is_right_row.Given as goal

abbrev pub decreases-is_right_row : goal.decreases-is_right_row
decreases-is_right_row l = length l.columns.now
