use Rattle.gx_cells.proofs.resuming.go_on.Given as goal

abbrev pub ghost-step : goal.ghost-step
ghost-step g a = g.s
