use Rattle.gx_trace_lines.proofs.ReadMarks.{mark-lines}
use Rattle.gx_trace_lines.proofs.marks.mark_lines_are_read.Goals as goal

pub returns : goal.returns
returns c = mark-lines
