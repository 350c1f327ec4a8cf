use Rattle.std.proofs.Common.{◌≡◌, take}
use Rattle.std.specs.List.{flat_map}
use Rattle.gx_cells.specs.Views.{rows_of}
use Rattle.gx_cells.proofs.showing.rows_by.Given as goal

abbrev pub invariant-loop-segment : goal.invariant-loop-segment
invariant-loop-segment g l = l.rows.items ≡ flat_map (rows_of l.snapshot l.table) (take l.segment-index l.segments)
