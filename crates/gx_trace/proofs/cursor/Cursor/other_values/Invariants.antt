use Rattle.std.proofs.Common.{◌≡◌, ◌-◌}
use Rattle.gx_trace.specs.Readers.{many}
use Rattle.gx_trace.specs.Values.{other_value}
use Rattle.gx_trace.proofs.Many.{onto}
use Rattle.gx_trace.proofs.cursor.Cursor.other_values.Given as goal

abbrev pub invariant-loop-step : goal.invariant-loop-step
invariant-loop-step l = onto other_value l.values (many (l.most - l._step) other_value l.self) ≡ onto other_value l.initial.values (many l.most other_value l.initial.self)
