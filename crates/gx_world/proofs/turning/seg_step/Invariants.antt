use Rattle.gx_world.proofs.turning.seg_step.Given as goal

abbrev pub ghost-seg_event : goal.ghost-seg_event
ghost-seg_event g a = g.moment
