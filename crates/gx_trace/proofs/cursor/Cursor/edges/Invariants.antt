use Rattle.std.proofs.Common.{◌≡◌, ◌-◌}
use Rattle.gx_trace.specs.Lists.{edge}
use Rattle.gx_trace.specs.Readers.{many}
use Rattle.gx_trace.proofs.Many.{onto}
use Rattle.gx_trace.proofs.cursor.Cursor.edges.Given as goal

abbrev pub invariant-loop-step : goal.invariant-loop-step
invariant-loop-step l = onto edge l.edges (many (l.most - l._step) edge l.self) ≡ many l.most edge l.initial.self
