use Rattle.std.proofs.Common.{◌≡◌, drop}
use Rattle.gx_store.specs.Marks.{row_table}
use Rattle.gx_legal.proofs.marks.table_of.Given as goal

abbrev pub invariant-loop-mark : goal.invariant-loop-mark
invariant-loop-mark l = row_table (drop l.mark-index l.marks) l.rid ≡ row_table l.marks l.rid
