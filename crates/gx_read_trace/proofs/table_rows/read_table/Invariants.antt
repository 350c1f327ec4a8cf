use Rattle.gx_read_trace.proofs.Onward.{TableSoFar}
use Rattle.gx_read_trace.proofs.table_rows.read_table.Given as goal

-- the rows so far, and so many to come
abbrev pub invariant-loop-row : goal.invariant-loop-row
invariant-loop-row l = TableSoFar l.table l.fn.lines l.count l._row l.lines l.rows
