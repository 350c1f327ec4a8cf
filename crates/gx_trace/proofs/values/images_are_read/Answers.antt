use Rattle.gx_trace.proofs.Rows.{images}
use Rattle.gx_trace.proofs.values.images_are_read.Goals as goal

pub returns : goal.returns
returns c = images
