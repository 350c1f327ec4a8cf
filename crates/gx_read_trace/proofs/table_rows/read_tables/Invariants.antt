use Rattle.gx_read_trace.proofs.Onward.{TablesSoFar}
use Rattle.gx_read_trace.proofs.table_rows.read_tables.Given as goal

-- the tables so far
abbrev pub invariant-loop-table : goal.invariant-loop-table
invariant-loop-table l = TablesSoFar l.script l.fn.lines l.table-index l.lines l.tables
