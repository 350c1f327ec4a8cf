use Rattle.gx_cells.proofs.hearing.may_receive.Given as goal

abbrev pub ghost-has_room : goal.ghost-has_room
ghost-has_room g a = g.c
