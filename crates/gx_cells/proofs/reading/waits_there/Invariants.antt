use Rattle.gx_cells.proofs.reading.waits_there.Given as goal

abbrev pub ghost-waits : goal.ghost-waits
ghost-waits g a = g.s
