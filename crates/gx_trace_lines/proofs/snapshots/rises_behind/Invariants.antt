use Rattle.std.proofs.Common.{◌≡◌, ◌∷◌, drop}
use Rattle.gx_trace_lines.specs.Snapshots.{rises}
use Rattle.gx_trace_lines.proofs.snapshots.rises_behind.Given as goal

abbrev pub invariant-loop-gxid : goal.invariant-loop-gxid
invariant-loop-gxid l = rises (l.last ∷ drop l.gxid-index l.others) ≡ rises (l.fn.first ∷ l.others)
