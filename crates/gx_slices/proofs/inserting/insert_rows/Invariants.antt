use Rattle.std.proofs.Common.{drop}
use Rattle.gx_slices.proofs.InsertedRows.{IsInserting}
use Rattle.gx_slices.proofs.inserting.insert_rows.Given as goal

abbrev pub invariant-loop-row : goal.invariant-loop-row
invariant-loop-row g l =
    IsInserting g.s l.writer.gxid l.writer.cid l.writer.table l.rows (drop l.row-index l.rows) l.fn.held l.held l.entry l.fn.marks.items l.marks.items
