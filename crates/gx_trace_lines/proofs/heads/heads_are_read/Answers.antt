use Rattle.gx_trace_lines.proofs.ReadHeads.{answer-heads}
use Rattle.gx_trace_lines.proofs.heads.heads_are_read.Goals as goal

pub returns : goal.returns
returns c = answer-heads
