use Rattle.std.proofs.Common.{◌≡◌, map, take}
use Rattle.gx_trace.specs.ShownText.{row_of}
use Rattle.gx_judging.proofs.tables.are_rows.Given as goal

abbrev pub invariant-loop-place : goal.invariant-loop-place
invariant-loop-place l = map row_of (take l.place l.rows) ≡ take l.place l.shown
