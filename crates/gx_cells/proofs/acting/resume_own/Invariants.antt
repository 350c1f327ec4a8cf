use Rattle.gx_cells.proofs.acting.resume_own.Given as goal

abbrev pub ghost-ready : goal.ghost-ready
ghost-ready g a = g.c

abbrev pub ghost-has_room : goal.ghost-has_room
ghost-has_room g a = g.c

abbrev pub ghost-do_own : goal.ghost-do_own
ghost-do_own g a = g.c
