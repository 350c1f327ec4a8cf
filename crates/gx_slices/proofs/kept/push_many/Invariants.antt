use Rattle.std.proofs.Common.{◌≡◌, ◌++◌}
use Rattle.std.specs.List.{flat_map}
use Rattle.gx_msg.specs.ItemBytes.{line_of_kept}
use Rattle.gx_slices.specs.Kept.{listed}
use Rattle.gx_slices.proofs.kept.push_many.Given as goal

abbrev pub invariant-loop-rid : goal.invariant-loop-rid
invariant-loop-rid l = l.text.items ++ flat_map line_of_kept (listed l.rid-iterator) ≡ l.initial.text.items ++ flat_map line_of_kept (listed l.rows.entries)
