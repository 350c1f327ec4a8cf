use Rattle.gx_cells.specs.CoordKept.{coordinator_apart}
use Rattle.gx_cells.proofs.coord_cell.CoordCell.left.Given as goal

abbrev pub ghost-left_there : goal.ghost-left_there
ghost-left_there g a = coordinator_apart a.history.now a.inboxes.now
