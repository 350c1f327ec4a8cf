use Rattle.std.proofs.Common.{◌≡◌, drop}
use Rattle.gx_store.specs.Marks.{is_written}
use Rattle.gx_legal.proofs.marks.is_written.Given as goal

abbrev pub invariant-loop-mark : goal.invariant-loop-mark
invariant-loop-mark l = is_written (drop l.mark-index l.marks) l.rid ≡ is_written l.marks l.rid
