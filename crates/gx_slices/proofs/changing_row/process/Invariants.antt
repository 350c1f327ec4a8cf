use Rattle.gx_slices.proofs.changing_row.process.Given as goal

abbrev pub ghost-change_if_true : goal.ghost-change_if_true
ghost-change_if_true g a = g.spot.stage

abbrev pub ghost-change_shown : goal.ghost-change_shown
ghost-change_shown g a = g.spot.stage
