use Rattle.gx_trace.proofs.Alternatives.{modes}
use Rattle.gx_trace.proofs.objects.modes_are_read.Goals as goal

pub returns : goal.returns
returns c = modes
