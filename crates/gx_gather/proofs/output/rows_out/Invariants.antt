use Rattle.std.proofs.Common.{◌≡◌, ◌++◌, map, drop}
use Rattle.gx_meaning.specs.Answer.{row_cell}
use Rattle.gx_gather.proofs.output.rows_out.Given as goal

abbrev pub invariant-loop-row : goal.invariant-loop-row
invariant-loop-row l = l.out.items ++ map (λ row. map (row_cell row.now) l.items) (drop l.row-index l.rows) ≡ map (λ row. map (row_cell row.now) l.items) l.rows
