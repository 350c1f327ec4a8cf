use Rattle.std.specs.Prelude.{◌-◌}
use Rattle.gx_cells.specs.CoordKept.{coordinator_apart}
use Rattle.gx_cells.proofs.coord_cell.CoordCell.receive.Given as goal

abbrev pub ghost-receive_from : goal.ghost-receive_from
ghost-receive_from g a = record { inboxes = a.inboxes.now.items; place = a.from.0 - 1; coord = coordinator_apart a.history.now a.inboxes.now.items }
