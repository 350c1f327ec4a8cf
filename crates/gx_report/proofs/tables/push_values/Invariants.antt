use Rattle.std.proofs.Common.{◌≡◌, ◌++◌, take, map}
use Rattle.std.specs.List.{flat_map}
use Rattle.gx_meaning.specs.Aggregates.{cell_of}
use Rattle.gx_report.specs.Text.{behind_bar}
use Rattle.gx_report.proofs.tables.push_values.Given as goal

abbrev pub invariant-loop-value : goal.invariant-loop-value
invariant-loop-value l = l.text.items ≡ l.initial.text.items ++ flat_map behind_bar (map cell_of (take l.value-index l.others))
