use Rattle.gx_cells.proofs.hearing.receive_new.Given as goal

abbrev pub ghost-deliver_unless_worn : goal.ghost-deliver_unless_worn
ghost-deliver_unless_worn g a = g.there
