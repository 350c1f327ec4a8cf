use Rattle.gx_cells.proofs.hearing.deliver.Given as goal

abbrev pub ghost-receive : goal.ghost-receive
ghost-receive g a = g.there.coord
