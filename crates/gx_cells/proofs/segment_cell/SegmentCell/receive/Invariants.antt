use Rattle.gx_cells.specs.Kept.{segment_apart}
use Rattle.gx_cells.proofs.segment_cell.SegmentCell.receive.Given as goal

abbrev pub ghost-receive_next : goal.ghost-receive_next
ghost-receive_next g a = segment_apart a.history.now a.inbox.now.source.received
