use Rattle.std.proofs.Common.{◌≡◌, take}
use Rattle.gx_store.specs.Marks.{is_aborted}
use Rattle.gx_legal.proofs.marks.is_aborted.Given as goal

abbrev pub invariant-loop-place : goal.invariant-loop-place
invariant-loop-place l = is_aborted (take l.place l.marks) l.gxid ≡ is_aborted l.marks l.gxid
