use Rattle.std.proofs.Common.{◌+◌}
use Rattle.gx_law_runs.specs.Replays.{segment_after}
use Rattle.gx_world.proofs.tables.shown_at.Given as goal

abbrev pub ghost-shown_there : goal.ghost-shown_there
ghost-shown_there a = segment_after a.network.now.script.value (record { 0 = a.place + 1 }) a.network.now.run.steps
