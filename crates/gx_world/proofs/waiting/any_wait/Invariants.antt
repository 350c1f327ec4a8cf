use Rattle.gx_law_runs.specs.Replays.{coordinator_after}
use Rattle.gx_world.proofs.waiting.any_wait.Given as goal

abbrev pub ghost-any_wait_here : goal.ghost-any_wait_here
ghost-any_wait_here a = coordinator_after a.network.now.script.value a.network.now.run.steps
