use Rattle.gx_cells.specs.CoordKept.{coordinator_apart}
use Rattle.gx_cells.proofs.coord_cell.CoordCell.resume.Given as goal

abbrev pub ghost-resume_own : goal.ghost-resume_own
ghost-resume_own g a = coordinator_apart a.history.now a.inboxes.now
