use Rattle.gx_drive.proofs.Running.{awaited-as-admitted}
use Rattle.gx_drive.proofs.detecting.is_graph_awaited.Goals as goal

pub returns-then-running : goal.returns-then-running
returns-then-running c =
    awaited-as-admitted c.args.world.now.script c.args.world.now.run.steps c.requires.language.some_segments c.requires.reached c.has_no_graph.result c.args.segment c.requires.there c.has_no_graph.ensures
