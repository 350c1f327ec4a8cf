use Rattle.std.specs.Prelude.{take}
use Rattle.gx_slices.specs.Changing.{change_in, moved_by}
use Rattle.gx_slices.proofs.Going.{IsUnderWay}
use Rattle.gx_slices.proofs.changing_rows.go_through.Given as goal

abbrev pub ghost-does_row_at : goal.ghost-does_row_at
ghost-does_row_at g a = record g.stage { moved = moved_by a.change.now.writer.gxid (change_in a.change.now) g.stage.moved (take a.index a.rids.now) }

abbrev pub invariant-loop-index : goal.invariant-loop-index
invariant-loop-index g l = IsUnderWay g.stage (change_in l.change) l.change.writer.gxid l.rids l.before l.held l.entry l.marks.items l.index l.count
