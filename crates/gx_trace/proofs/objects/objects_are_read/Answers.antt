use Rattle.gx_trace.proofs.Alternatives.{objects}
use Rattle.gx_trace.proofs.objects.objects_are_read.Goals as goal

pub returns : goal.returns
returns c = objects
