use Rattle.std.proofs.Common.{refl}
use Rattle.std.specs.Fmt.{digits}
use Rattle.gx_report.proofs.worked.stuck_edges_are_told.Goals as goal

pub returns : goal.returns
unfolding digits
returns c = refl
