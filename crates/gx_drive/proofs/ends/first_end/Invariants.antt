use Rattle.std.proofs.Common.{◌≡◌, ◌-◌, length}
use Rattle.gx_store.specs.Schedule.{ends, first_of, is_to_end}
use Rattle.gx_drive.proofs.Firsts.{passing}
use Rattle.gx_drive.proofs.ends.first_end.Given as goal

abbrev pub invariant-loop-place : goal.invariant-loop-place
invariant-loop-place l = first_of (passing (is_to_end l.world.script l.world.run.steps) l.place (length l.world.script.sessions - l.place)) ≡ first_of (ends l.world.script l.world.run.steps)
