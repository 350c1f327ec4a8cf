use Rattle.std.proofs.Common.{◌≡◌, take}
use Rattle.gx_store.specs.Marks.{has_snapshot}
use Rattle.gx_legal.proofs.marks.has_snapshot.Given as goal

abbrev pub invariant-loop-place : goal.invariant-loop-place
invariant-loop-place l = has_snapshot (take l.place l.marks) l.gxid ≡ has_snapshot l.marks l.gxid
