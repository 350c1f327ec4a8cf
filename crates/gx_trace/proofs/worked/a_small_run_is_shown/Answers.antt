use Rattle.std.proofs.Common.{refl}
use Rattle.std.specs.Fmt.{digits}
use Rattle.gx_trace.proofs.worked.a_small_run_is_shown.Goals as goal

pub returns : goal.returns
unfolding digits
returns c = refl
