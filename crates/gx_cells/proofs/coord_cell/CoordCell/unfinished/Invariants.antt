use Rattle.gx_cells.specs.CoordKept.{coordinator_apart}
use Rattle.gx_cells.proofs.coord_cell.CoordCell.unfinished.Given as goal

abbrev pub ghost-unfinished_there : goal.ghost-unfinished_there
ghost-unfinished_there g a = coordinator_apart a.history.now a.inboxes.now
