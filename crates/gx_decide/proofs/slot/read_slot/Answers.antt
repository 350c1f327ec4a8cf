use Rattle.gx_decide.proofs.Slots.{slot-at}
use Rattle.gx_decide.proofs.slot.read_slot.Goals as goal

pub returns-clause-slot : goal.returns-clause-slot
returns-clause-slot g c = slot-at _ _ c.read.new.buf c.slot_of.result c.read.ensures.length c.in_ok-read.ensures.ok c.slot_of.ensures
