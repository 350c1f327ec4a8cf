use Rattle.std.proofs.Common.{◌≡◌, take}
use Rattle.std.specs.List.{flat_map}
use Rattle.gx_slices.specs.Filed.{image_at, keyed}
use Rattle.gx_slices.proofs.reading.rows_of.Given as goal

abbrev pub invariant-loop-rid : goal.invariant-loop-rid
invariant-loop-rid l = l.rows.items ≡ flat_map (λ rid. keyed rid (image_at l.versions l.xids l.snap l.own l.cid rid)) (take l.rid-index l.rids)
