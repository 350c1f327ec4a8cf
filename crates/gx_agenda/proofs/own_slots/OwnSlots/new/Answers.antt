use Rattle.gx_agenda.proofs.Telling.{kept-first}
use Rattle.gx_agenda.proofs.own_slots.OwnSlots.new.Goals as goal

pub returns : goal.returns
returns c = kept-first c.args.script.now (record { queue = c.in_ok-queue.queue; slots = c.in_ok-slots.slots; told = 0 }) c.in_ok-slots.slots c.in_ok-slots.ensures c.in_ok-queue.ensures
