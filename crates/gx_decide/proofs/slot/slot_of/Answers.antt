use Rattle.std.proofs.Common.{rules}
use Rattle.gx_decide.proofs.Slots.{six_zeros}
use Rattle.gx_decide.proofs.slot.slot_of.Goals as goal

pub returns : goal.returns
returns c = record { gxid = c.from_le_bytes.ensures; verdict = search rules; gate = search rules; blank = six_zeros _ _ _ _ _ _ _ c.eq.ensures }
