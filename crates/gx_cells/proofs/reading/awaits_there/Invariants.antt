use Rattle.gx_cells.proofs.reading.awaits_there.Given as goal

abbrev pub ghost-awaits_exec : goal.ghost-awaits_exec
ghost-awaits_exec g a = g.c
