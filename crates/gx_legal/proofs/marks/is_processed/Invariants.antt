use Rattle.std.proofs.Common.{◌≡◌, drop}
use Rattle.gx_store.specs.Marks.{is_processed}
use Rattle.gx_legal.proofs.marks.is_processed.Given as goal

abbrev pub invariant-loop-mark : goal.invariant-loop-mark
invariant-loop-mark l = is_processed (drop l.mark-index l.marks) l.gxid l.cid l.rid ≡ is_processed l.marks l.gxid l.cid l.rid
