use Rattle.gx_law_runs.specs.Replays.{world_behind}
use Rattle.gx_world.proofs.Coming.{here_in}
use Rattle.gx_world.proofs.moves.do_event.Given as goal

abbrev pub ghost-turn : goal.ghost-turn
ghost-turn g a =
    record { w = world_behind a.network.now.script.value a.network.now.run.steps; here = here_in (world_behind a.network.now.script.value a.network.now.run.steps) a.event }
