use Rattle.gx_law_runs.specs.Replays.{coordinator_after}
use Rattle.gx_world.proofs.looking.is_unfinished.Given as goal

abbrev pub ghost-is_unfinished_there : goal.ghost-is_unfinished_there
ghost-is_unfinished_there a = coordinator_after a.network.now.script.value a.network.now.run.steps
