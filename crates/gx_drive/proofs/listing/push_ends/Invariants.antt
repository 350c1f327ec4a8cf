use Rattle.std.proofs.Common.{◌≡◌, ◌-◌, ◌++◌, length}
use Rattle.gx_store.specs.Schedule.{ends, is_to_end}
use Rattle.gx_drive.proofs.Firsts.{passing}
use Rattle.gx_drive.proofs.listing.push_ends.Given as goal

abbrev pub invariant-loop-place : goal.invariant-loop-place
invariant-loop-place l =
    l.events.items ++ passing (is_to_end l.world.script l.world.run.steps) l.place (length l.world.script.sessions - l.place)
    ≡ l.initial.events.items ++ ends l.world.script l.world.run.steps
