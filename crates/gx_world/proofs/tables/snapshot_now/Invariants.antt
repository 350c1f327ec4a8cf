use Rattle.gx_law_runs.specs.Replays.{coordinator_after}
use Rattle.gx_world.proofs.tables.snapshot_now.Given as goal

abbrev pub ghost-snapshot_there : goal.ghost-snapshot_there
ghost-snapshot_there a = coordinator_after a.network.now.script.value a.network.now.run.steps
