use Rattle.gx_law_runs.specs.Replays.{coordinator_after, segment_after}
use Rattle.gx_world.proofs.waiting.ready.Given as goal

abbrev pub ghost-ready_here : goal.ghost-ready_here
ghost-ready_here a = coordinator_after a.network.now.script.value a.network.now.run.steps

abbrev pub ghost-ready_there : goal.ghost-ready_there
ghost-ready_there a = segment_after a.network.now.script.value a.node a.network.now.run.steps
