use Rattle.gx_world.proofs.turning.coord_event.Given as goal

abbrev pub ghost-coord_receives : goal.ghost-coord_receives
ghost-coord_receives g a = g.at.c

abbrev pub ghost-step : goal.ghost-step
ghost-step g a = g.at.c
