use Rattle.gx_rules.specs.Machine.{world_of}
use Rattle.gx_law_runs.proofs.Awaited.{sent-room, world-asks}
use Rattle.gx_law_runs.proofs.Room.{world-stays}
use Rattle.gx_law_runs.proofs.schedules.counts_have_room.Goals as goal

pub returns : goal.returns
returns c = λ script events some.
    let r = (world-stays script some events).room in
    record { clock = r.clock; clocks = r.clocks; next = r.next; sent = sent-room (world_of script events) (world-asks script some events); answered = r.answered }
