use Rattle.gx_cells.specs.Kept.{segment_apart}
use Rattle.gx_cells.proofs.segment_cell.SegmentCell.resume.Given as goal

abbrev pub ghost-resume_next : goal.ghost-resume_next
ghost-resume_next g a = segment_apart a.history.now a.inbox.now.source.received
