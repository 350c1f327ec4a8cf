use Rattle.std.proofs.Common.{◌≡◌, drop}
use Rattle.gx_trace_lines.specs.Snapshots.{are_below}
use Rattle.gx_trace_lines.proofs.snapshots.are_below.Given as goal

abbrev pub invariant-loop-gxid : goal.invariant-loop-gxid
invariant-loop-gxid l = are_below l.limit.0 (drop l.gxid-index l.gxids) ≡ are_below l.limit.0 l.gxids
