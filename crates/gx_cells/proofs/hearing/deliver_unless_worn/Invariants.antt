use Rattle.gx_cells.proofs.hearing.deliver_unless_worn.Given as goal

abbrev pub ghost-may_receive : goal.ghost-may_receive
ghost-may_receive g a = g.there.coord

abbrev pub ghost-deliver : goal.ghost-deliver
ghost-deliver g a = g.there
