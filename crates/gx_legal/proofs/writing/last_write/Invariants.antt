use Rattle.std.proofs.Common.{◌≡◌, None, take}
use Rattle.gx_store.specs.Writes.{last_write}
use Rattle.gx_legal.specs.Written.{counts_for}
use Rattle.gx_legal.proofs.writing.last_write.Given as goal

abbrev pub invariant-loop-place : goal.invariant-loop-place
invariant-loop-place l =
    last_write (counts_for l.reader l.before) l.rid 0 None (take l.place l.marks)
    ≡ last_write (counts_for l.reader l.before) l.rid 0 None l.marks
