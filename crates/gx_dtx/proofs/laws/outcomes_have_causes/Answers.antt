use Rattle.gx_dtx.specs.Runs.{after}
use Rattle.gx_dtx.proofs.Causes.{has-cause}
use Rattle.gx_dtx.proofs.Steps.{IsWhole-after}
use Rattle.gx_dtx.proofs.laws.outcomes_have_causes.Goals as goal

pub returns : goal.returns
returns c = λ calls g i answer refused run. has-cause (after calls) g i answer refused (IsWhole-after calls run)
