use Rattle.gx_trace.proofs.Alternatives.{edge-lists}
use Rattle.gx_trace.proofs.lists.edges_are_read.Goals as goal

pub returns : goal.returns
returns c = edge-lists
