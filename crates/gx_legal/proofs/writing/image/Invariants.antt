use Rattle.std.proofs.Common.{◌≡◌, None, take}
use Rattle.gx_store.specs.View.{image, image_after, is_shown_to}
use Rattle.gx_legal.proofs.writing.image.Given as goal

abbrev pub invariant-loop-place : goal.invariant-loop-place
invariant-loop-place l =
    image_after (is_shown_to l.reader l.before) l.table l.rid None (take l.place l.marks) ≡ image l.marks l.before l.reader l.table l.rid
