use Rattle.std.proofs.Common.{◌≡◌, drop}
use Rattle.gx_legal.specs.RowsDone.{are_done_in}
use Rattle.gx_legal.proofs.changed.are_done_in.Given as goal

abbrev pub invariant-loop-row : goal.invariant-loop-row
invariant-loop-row l = are_done_in l.done l.cond (drop l.row-index l.rows) ≡ are_done_in l.done l.cond l.rows
