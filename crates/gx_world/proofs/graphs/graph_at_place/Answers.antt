use Rattle.std.proofs.Common.{◌+◌, ◌∙◌, arith}
use Rattle.gx_law_runs.proofs.Detecting.{graph-there}
use Rattle.gx_world.proofs.Answers.{if_ok}
use Rattle.gx_world.proofs.graphs.graph_at_place.Goals as goal

pub graph_of_segment-requires : goal.graph_of_segment-requires
graph_of_segment-requires c = (c.requires.inside, λ segment there. ((c.requires.is.stands c.requires.usable).segments c.args.place segment there).is)

pub returns : goal.returns
returns c =
    if_ok c.graph_of_segment.result _ _ c.graph_of_segment.ensures
    (λ graph same. same ∙ graph-there c.args.network.now.script.value c.args.network.now.run.steps c.requires.is.language.some_segments c.requires.is.reached (record { 0 = c.args.place + 1 }) (omega arith))
