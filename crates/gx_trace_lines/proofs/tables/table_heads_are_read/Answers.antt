use Rattle.gx_trace_lines.proofs.ReadTables.{table-heads}
use Rattle.gx_trace_lines.proofs.tables.table_heads_are_read.Goals as goal

pub returns : goal.returns
returns c = table-heads
