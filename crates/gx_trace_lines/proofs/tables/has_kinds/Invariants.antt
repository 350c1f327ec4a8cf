use Rattle.std.proofs.Common.{◌≡◌, drop}
use Rattle.gx_trace_lines.specs.Tables.{has_kinds}
use Rattle.gx_trace_lines.proofs.tables.has_kinds.Given as goal

abbrev pub invariant-loop-column : goal.invariant-loop-column
invariant-loop-column l = has_kinds (drop l.column-index l.columns) l.left ≡ has_kinds l.columns l.values
