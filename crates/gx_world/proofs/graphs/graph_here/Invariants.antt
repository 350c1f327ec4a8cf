use Rattle.gx_law_runs.specs.Replays.{coordinator_after}
use Rattle.gx_world.proofs.graphs.graph_here.Given as goal

abbrev pub ghost-graph_of_coordinator : goal.ghost-graph_of_coordinator
ghost-graph_of_coordinator a = coordinator_after a.network.now.script.value a.network.now.run.steps
