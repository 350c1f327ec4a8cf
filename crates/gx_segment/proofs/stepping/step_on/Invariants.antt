use Rattle.gx_segment.proofs.stepping.step_on.Given as goal

abbrev pub ghost-take_event : goal.ghost-take_event
ghost-take_event g a = g.was
