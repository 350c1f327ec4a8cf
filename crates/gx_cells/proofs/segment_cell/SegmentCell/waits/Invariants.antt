use Rattle.gx_cells.specs.Kept.{segment_apart}
use Rattle.gx_cells.proofs.segment_cell.SegmentCell.waits.Given as goal

abbrev pub ghost-waits_there : goal.ghost-waits_there
ghost-waits_there g a = segment_apart a.history.now a.inbox.now.source.received
