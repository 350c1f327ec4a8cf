use Rattle.gx_law_runs.specs.Replays.{coordinator_after}
use Rattle.gx_world.proofs.admitting.can_begin.Given as goal

abbrev pub ghost-can_at_coordinator : goal.ghost-can_at_coordinator
ghost-can_at_coordinator a = coordinator_after a.network.now.script.value a.network.now.run.steps
