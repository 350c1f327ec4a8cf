use Rattle.std.proofs.Common.{◌≡◌, take}
use Rattle.gx_store.specs.Marks.{is_committed}
use Rattle.gx_legal.proofs.marks.is_committed.Given as goal

abbrev pub invariant-loop-place : goal.invariant-loop-place
invariant-loop-place l = is_committed (take l.place l.marks) l.gxid ≡ is_committed l.marks l.gxid
