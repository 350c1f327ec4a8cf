use Rattle.std.proofs.Common.{◌≡◌, drop}
use Rattle.gx_legal.specs.Viewed.{images_from, is_seen_by}
use Rattle.gx_legal.proofs.viewing.add_images.Given as goal

abbrev pub invariant-loop-mark : goal.invariant-loop-mark
invariant-loop-mark l =
    images_from (is_seen_by l.reader l.committed) l.table l.images.entries (drop l.mark-index l.marks) ≡ images_from (is_seen_by l.reader l.committed) l.table l.fn.images.entries l.marks
