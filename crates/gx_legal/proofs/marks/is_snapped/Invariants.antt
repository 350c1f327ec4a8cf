use Rattle.std.proofs.Common.{◌≡◌, take}
use Rattle.gx_store.specs.Marks.{is_snapped}
use Rattle.gx_legal.proofs.marks.is_snapped.Given as goal

abbrev pub invariant-loop-place : goal.invariant-loop-place
invariant-loop-place l = is_snapped (take l.place l.marks) l.gxid l.cid ≡ is_snapped l.marks l.gxid l.cid
