use Rattle.gx_trace.proofs.ReadFields.{rids}
use Rattle.gx_trace.proofs.fields.rids_are_read.Goals as goal

pub returns : goal.returns
returns c = rids
