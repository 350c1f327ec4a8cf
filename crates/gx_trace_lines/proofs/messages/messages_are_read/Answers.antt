use Rattle.gx_trace_lines.proofs.ReadMessages.{messages}
use Rattle.gx_trace_lines.proofs.messages.messages_are_read.Goals as goal

pub returns : goal.returns
returns c = messages
