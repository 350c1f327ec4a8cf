use Rattle.gx_trace_lines.proofs.ReadCells.{out-rows}
use Rattle.gx_trace_lines.proofs.cells.out_rows_are_read.Goals as goal

pub returns : goal.returns
returns c = out-rows
