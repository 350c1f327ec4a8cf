use Rattle.gx_cells.specs.CoordKept.{coordinator_apart}
use Rattle.gx_cells.proofs.coord_cell.CoordCell.awaits_exec.Given as goal

abbrev pub ghost-awaits_there : goal.ghost-awaits_there
ghost-awaits_there g a = coordinator_apart a.history.now a.inboxes.now
