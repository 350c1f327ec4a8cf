use Rattle.gx_trace.proofs.Names.{sessions}
use Rattle.gx_trace.proofs.naming.sessions_are_read.Goals as goal

pub returns : goal.returns
returns c = sessions
