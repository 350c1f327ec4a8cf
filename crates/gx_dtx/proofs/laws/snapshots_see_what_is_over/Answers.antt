use Rattle.std.proofs.Common.{◌∙◌}
use Rattle.gx_dtx.specs.Runs.{after}
use Rattle.gx_dtx.proofs.History.{ended-after}
use Rattle.gx_dtx.proofs.Sees.{sees-ended}
use Rattle.gx_dtx.proofs.Steps.{IsWhole-after}
use Rattle.gx_dtx.proofs.laws.snapshots_see_what_is_over.Goals as goal

pub returns : goal.returns
returns c = λ calls snap g run taken first. sees-ended (after calls) snap g (IsWhole-after calls run) taken.xmax taken.running first ∙ ended-after calls g run first
