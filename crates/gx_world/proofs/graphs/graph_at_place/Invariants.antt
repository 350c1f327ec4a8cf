use Rattle.std.proofs.Common.{◌+◌}
use Rattle.gx_law_runs.specs.Replays.{segment_after}
use Rattle.gx_world.proofs.graphs.graph_at_place.Given as goal

abbrev pub ghost-graph_of_segment : goal.ghost-graph_of_segment
ghost-graph_of_segment a = segment_after a.network.now.script.value (record { 0 = a.place + 1 }) a.network.now.run.steps
