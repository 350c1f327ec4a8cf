use Rattle.std.proofs.Common.{◌≡◌, ◌++◌, take}
use Rattle.std.specs.List.{flat_map}
use Rattle.gx_msg.specs.ItemBytes.{line_of_kept}
use Rattle.gx_msg.proofs.bytes.push_rows.Given as goal

abbrev pub invariant-loop-kept : goal.invariant-loop-kept
invariant-loop-kept l = l.text.items ≡ l.initial.text.items ++ flat_map line_of_kept (take l.kept-index l.rows)
