use Rattle.gx_trace.proofs.ReadFields.{gxid-lists}
use Rattle.gx_trace.proofs.lists.gxids_are_read.Goals as goal

pub returns : goal.returns
returns c = gxid-lists
