use Rattle.gx_cells.proofs.receiving.deliver.Given as goal

abbrev pub ghost-receive : goal.ghost-receive
ghost-receive g a = g.s
