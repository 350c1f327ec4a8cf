use Rattle.gx_cells.proofs.resuming.resume_next.Given as goal

abbrev pub ghost-ready : goal.ghost-ready
ghost-ready g a = g.s

abbrev pub ghost-has_room : goal.ghost-has_room
ghost-has_room g a = g.s

abbrev pub ghost-go_on : goal.ghost-go_on
ghost-go_on g a = g.s
