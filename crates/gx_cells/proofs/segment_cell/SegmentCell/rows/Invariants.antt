use Rattle.gx_cells.specs.Kept.{segment_apart}
use Rattle.gx_cells.proofs.segment_cell.SegmentCell.rows.Given as goal

abbrev pub ghost-rows_there : goal.ghost-rows_there
ghost-rows_there g a = segment_apart a.history.now a.inbox.now.source.received
