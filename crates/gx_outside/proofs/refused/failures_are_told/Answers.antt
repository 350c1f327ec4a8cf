use Rattle.std.proofs.Common.{arith, refl}
use Rattle.gx_outside.proofs.refused.failures_are_told.Goals as goal

pub returns-clause-again : goal.returns-clause-again
returns-clause-again c = λ before after item h. absurd (omega (arith, h.told.calm refl, h.rose))

pub returns-clause-memory : goal.returns-clause-memory
returns-clause-memory c = λ before after item h. absurd (omega (arith, h.answered.calm, h.rose))
