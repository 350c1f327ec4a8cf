use Rattle.std.proofs.Common.{◌≡◌, ◌≤◌, ◌+◌, drop}
use Rattle.gx_store.specs.Marks.{write_count}
use Rattle.gx_legal.proofs.marks.write_count.Given as goal

abbrev pub invariant-loop-mark : goal.invariant-loop-mark
invariant-loop-mark l = (l.count + write_count (drop l.mark-index l.marks) l.gxid l.cid ≡ write_count l.marks l.gxid l.cid) × (l.count ≤ l.mark-index)
