use Rattle.gx_cells.specs.CoordKept.{coordinator_apart}
use Rattle.gx_cells.proofs.coord_cell.CoordCell.snapshot.Given as goal

abbrev pub ghost-snapshot_there : goal.ghost-snapshot_there
ghost-snapshot_there g a = coordinator_apart a.history.now a.inboxes.now
