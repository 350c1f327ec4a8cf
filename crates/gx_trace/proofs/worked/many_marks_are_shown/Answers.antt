use Rattle.std.proofs.Common.{refl}
use Rattle.std.specs.Fmt.{digits}
use Rattle.gx_trace.proofs.worked.many_marks_are_shown.Goals as goal

pub returns : goal.returns
unfolding digits
returns c = refl
