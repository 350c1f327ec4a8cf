use Rattle.gx_cells.proofs.hearing.receive_next.Given as goal

abbrev pub ghost-receive_new : goal.ghost-receive_new
ghost-receive_new g a = g.there

abbrev pub ghost-deliver_unless_worn : goal.ghost-deliver_unless_worn
ghost-deliver_unless_worn g a = g.there
