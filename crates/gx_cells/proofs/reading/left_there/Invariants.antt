use Rattle.gx_cells.proofs.reading.left_there.Given as goal

abbrev pub ghost-left : goal.ghost-left
ghost-left g a = g.c
