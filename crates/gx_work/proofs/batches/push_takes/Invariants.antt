use Rattle.std.proofs.Common.{◌≡◌, ◌++◌, take}
use Rattle.std.specs.List.{flat_map}
use Rattle.gx_work.specs.Text.{take_line}
use Rattle.gx_work.proofs.batches.push_takes.Given as goal

abbrev pub invariant-loop-transfer : goal.invariant-loop-transfer
invariant-loop-transfer l = l.text.items ≡ l.initial.text.items ++ flat_map take_line (take l.transfer-index l.transfers)
