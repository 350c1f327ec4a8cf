use Rattle.std.proofs.Common.{◌∙◌}
use Rattle.gx_drive.proofs.Answers.{both_if_ok}
use Rattle.gx_drive.proofs.Endings.{reduced-are}
use Rattle.gx_drive.proofs.stuck.stuck_waits.Goals as goal

pub returns : goal.returns
returns c =
    both_if_ok c.reduce.result _ _ _ c.reduce.ensures.stuck c.reduce.ensures.order
    (λ rest stuck order. reduced-are c.args.world.now.script c.args.world.now.run.steps _ rest.items (c.as_slice.ensures.value ∙ c.in_ok-graphs.ensures.value) stuck order)
