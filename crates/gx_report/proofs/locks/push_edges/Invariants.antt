use Rattle.std.proofs.Common.{◌≡◌, ◌++◌, take}
use Rattle.std.specs.List.{flat_map}
use Rattle.gx_report.specs.LockText.{edge_text}
use Rattle.gx_report.proofs.locks.push_edges.Given as goal

abbrev pub invariant-loop-edge : goal.invariant-loop-edge
invariant-loop-edge l = l.text.items ≡ l.initial.text.items ++ flat_map edge_text (take l.edge-index l.edges)
