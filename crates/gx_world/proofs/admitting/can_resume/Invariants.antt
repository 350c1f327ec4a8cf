use Rattle.gx_law_runs.specs.Replays.{segment_after}
use Rattle.gx_world.proofs.admitting.can_resume.Given as goal

abbrev pub ghost-is_ready_there : goal.ghost-is_ready_there
ghost-is_ready_there a = segment_after a.network.now.script.value a.node a.network.now.run.steps
