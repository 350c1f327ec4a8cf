use Rattle.std.proofs.Common.{◌≡◌, take}
use Rattle.gx_slices.proofs.shown_row.to_all_keyed.Given as goal

abbrev pub invariant-loop-row : goal.invariant-loop-row
invariant-loop-row l = l.rows.items ≡ take l.row-index l.shown
