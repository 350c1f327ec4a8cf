use Rattle.std.proofs.Common.{◌≡◌, ◌-◌}
use Rattle.gx_trace.specs.Fields.{gxid}
use Rattle.gx_trace.specs.Readers.{many}
use Rattle.gx_trace.proofs.Many.{onto}
use Rattle.gx_trace.proofs.cursor.Cursor.gxids.Given as goal

abbrev pub invariant-loop-step : goal.invariant-loop-step
invariant-loop-step l = onto gxid l.gxids (many (l.most - l._step) gxid l.self) ≡ many l.most gxid l.initial.self
