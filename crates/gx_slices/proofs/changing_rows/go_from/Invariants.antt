use Rattle.gx_slices.proofs.changing_rows.go_from.Given as goal

abbrev pub ghost-go_through : goal.ghost-go_through
ghost-go_through g a = g.ending.stage

abbrev pub ghost-close : goal.ghost-close
ghost-close g a = g.ending
