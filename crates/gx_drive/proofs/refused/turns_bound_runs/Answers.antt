use Rattle.std.proofs.Common.{arith}
use Rattle.gx_drive.proofs.refused.turns_bound_runs.Goals as goal

pub returns : goal.returns
returns c = λ script steps end late. absurd (omega (arith, late.ten, late.nine.within))
