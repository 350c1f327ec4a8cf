use Rattle.gx_read_trace.proofs.Onward.{RowsSoFar}
use Rattle.gx_read_trace.proofs.answers.read_rows.Given as goal

-- the rows so far, and so many to come
abbrev pub invariant-loop-row : goal.invariant-loop-row
invariant-loop-row l = RowsSoFar l.initial.lines l.count l._row l.lines l.rows
