use Rattle.std.proofs.Common.{arith, refl}
use Rattle.gx_outside.proofs.refused.failures_are_counted.Goals as goal

pub returns : goal.returns
returns c = λ before after item h. absurd (omega (arith, h.answered.caused refl, h.same))
