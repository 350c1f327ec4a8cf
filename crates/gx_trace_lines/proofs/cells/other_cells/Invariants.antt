use Rattle.std.proofs.Common.{◌≡◌, ◌-◌}
use Rattle.gx_trace.specs.Readers.{many}
use Rattle.gx_trace_lines.specs.Cells.{other_cell}
use Rattle.gx_trace.proofs.Many.{onto}
use Rattle.gx_trace_lines.proofs.cells.other_cells.Given as goal

abbrev pub invariant-loop-step : goal.invariant-loop-step
invariant-loop-step l = onto other_cell l.cells (many (l.most - l._step) other_cell l.cursor) ≡ onto other_cell l.initial.cells (many l.most other_cell l.initial.cursor)
