use Rattle.gx_trace_lines.proofs.ReadTables.{table-rows}
use Rattle.gx_trace_lines.proofs.tables.table_rows_are_read.Goals as goal

pub returns : goal.returns
returns c = table-rows
