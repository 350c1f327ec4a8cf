use Rattle.std.proofs.Common.{◌≡◌, drop}
use Rattle.gx_store.specs.Marks.{session_of}
use Rattle.gx_legal.proofs.counts.session_of.Given as goal

abbrev pub invariant-loop-mark : goal.invariant-loop-mark
invariant-loop-mark l = session_of (drop l.mark-index l.marks) l.gxid ≡ session_of l.marks l.gxid
