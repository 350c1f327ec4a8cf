use Rattle.std.proofs.Common.{◌≡◌, ◌++◌, take}
use Rattle.std.specs.List.{flat_map}
use Rattle.gx_work.specs.Text.{begin_line}
use Rattle.gx_work.proofs.batches.push_begins.Given as goal

abbrev pub invariant-loop-transfer : goal.invariant-loop-transfer
invariant-loop-transfer l = l.text.items ≡ l.initial.text.items ++ flat_map begin_line (take l.transfer-index l.transfers)
