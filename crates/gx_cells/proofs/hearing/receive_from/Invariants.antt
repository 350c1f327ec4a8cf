use Rattle.gx_cells.proofs.hearing.receive_from.Given as goal

abbrev pub ghost-receive_next : goal.ghost-receive_next
ghost-receive_next g a = g.there
