use Rattle.gx_cells.specs.CoordKept.{coordinator_apart}
use Rattle.gx_cells.proofs.coord_cell.CoordCell.own.Given as goal

abbrev pub ghost-act_own : goal.ghost-act_own
ghost-act_own g a = coordinator_apart a.history.now a.inboxes.now
