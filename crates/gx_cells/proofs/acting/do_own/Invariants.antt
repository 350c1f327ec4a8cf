use Rattle.gx_cells.proofs.acting.do_own.Given as goal

abbrev pub ghost-step : goal.ghost-step
ghost-step g a = g.c
