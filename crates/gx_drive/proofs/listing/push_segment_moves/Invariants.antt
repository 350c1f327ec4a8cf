use Rattle.std.proofs.Common.{◌≡◌, ◌+◌, ◌-◌, ◌++◌}
use Rattle.std.specs.List.{flat_map}
use Rattle.gx_meaning.specs.Plan.{nodes_from}
use Rattle.gx_store.specs.Schedule.{at_segment, segments_of}
use Rattle.gx_drive.proofs.listing.push_segment_moves.Given as goal

abbrev pub invariant-loop-number : goal.invariant-loop-number
invariant-loop-number l =
    l.events.items ++ flat_map (at_segment l.world.script l.world.run.steps) (nodes_from l.number (l.world.script.segments + 1 - l.number))
    ≡ l.initial.events.items ++ flat_map (at_segment l.world.script l.world.run.steps) (segments_of l.world.script)
