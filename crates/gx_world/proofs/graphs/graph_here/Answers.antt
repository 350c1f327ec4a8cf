use Rattle.std.proofs.Common.{◌∙◌}
use Rattle.gx_law_runs.proofs.Detecting.{graph-here}
use Rattle.gx_world.proofs.Answers.{if_ok}
use Rattle.gx_world.proofs.graphs.graph_here.Goals as goal

pub returns : goal.returns
returns c =
    if_ok c.graph_of_coordinator.result _ _ c.graph_of_coordinator.ensures
    (λ graph same. same ∙ graph-here c.args.network.now.script.value c.args.network.now.run.steps c.requires.is.language.some_segments c.requires.is.reached)
