use Rattle.std.proofs.Common.{◌≡◌, ◌++◌, take}
use Rattle.std.specs.List.{flat_map}
use Rattle.gx_report.specs.Stops.{wait_lines}
use Rattle.gx_report.proofs.stops.push_waits_behind.Given as goal

abbrev pub invariant-loop-graph : goal.invariant-loop-graph
invariant-loop-graph l = l.text.items ≡ l.initial.text.items ++ flat_map wait_lines (take l.graph-index l.graphs)
