use Rattle.gx_world.proofs.turning.push_step.Given as goal

abbrev pub ghost-note : goal.ghost-note
ghost-note g a = g.segments
