use Rattle.gx_law_merge.proofs.Slotting.{queued-merged, slots-merged}
use Rattle.gx_law_merge.proofs.slots.merges_keep_slots.Goals as goal

pub returns-clause-slots : goal.returns-clause-slots
returns-clause-slots c = λ script histories steps language inserts fit merge is. slots-merged script language inserts histories fit steps merge is

pub returns-clause-queued : goal.returns-clause-queued
returns-clause-queued c = λ script histories steps language inserts fit merge is. queued-merged script language inserts histories fit steps merge is
