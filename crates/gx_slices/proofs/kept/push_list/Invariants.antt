use Rattle.std.proofs.Common.{◌≡◌, ◌++◌, take}
use Rattle.std.specs.List.{flat_map}
use Rattle.gx_msg.specs.ItemBytes.{line_of_kept}
use Rattle.gx_slices.specs.Kept.{kept_in}
use Rattle.gx_slices.proofs.kept.push_list.Given as goal

abbrev pub invariant-loop-rid : goal.invariant-loop-rid
invariant-loop-rid l = l.text.items ≡ l.initial.text.items ++ flat_map (λ e. line_of_kept (kept_in e)) (take l.rid-index l.list)
