use Rattle.std.proofs.Common.{◌≡◌, ◌++◌, drop}
use Rattle.gx_legal.specs.Told.{met_rows}
use Rattle.gx_legal.proofs.shown.met_rows.Given as goal

abbrev pub invariant-loop-row : goal.invariant-loop-row
invariant-loop-row l = l.met.items ++ met_rows l.cond (drop l.row-index l.rows) ≡ met_rows l.cond l.rows
