use Rattle.gx_cells.proofs.reading.unfinished_there.Given as goal

abbrev pub ghost-unfinished : goal.ghost-unfinished
ghost-unfinished g a = g.c
