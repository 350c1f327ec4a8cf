use Rattle.gx_trace_lines.proofs.ReadEvents.{moments}
use Rattle.gx_trace_lines.proofs.events.moments_are_read.Goals as goal

pub returns : goal.returns
returns c = moments
