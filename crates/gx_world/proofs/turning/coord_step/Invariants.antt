use Rattle.gx_world.proofs.turning.coord_step.Given as goal

abbrev pub ghost-coord_event : goal.ghost-coord_event
ghost-coord_event g a = g.at
