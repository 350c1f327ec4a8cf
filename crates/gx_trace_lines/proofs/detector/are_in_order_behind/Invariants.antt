use Rattle.std.proofs.Common.{◌≡◌, ◌∷◌, drop}
use Rattle.gx_trace_lines.specs.Edges.{are_in_order}
use Rattle.gx_trace_lines.proofs.detector.are_in_order_behind.Given as goal

abbrev pub invariant-loop-edge : goal.invariant-loop-edge
invariant-loop-edge l = are_in_order (l.last ∷ drop l.edge-index l.others) ≡ are_in_order (l.first ∷ l.others)
