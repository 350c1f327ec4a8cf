use Rattle.std.proofs.Common.{◌≡◌, drop}
use Rattle.gx_store.specs.Marks.{is_sent}
use Rattle.gx_legal.proofs.orders.is_sent.Given as goal

abbrev pub invariant-loop-mark : goal.invariant-loop-mark
invariant-loop-mark l = is_sent (drop l.mark-index l.marks) l.gxid l.cid ≡ is_sent l.marks l.gxid l.cid
