use Rattle.gx_world.proofs.admitting.is_ready_there.Given as goal

abbrev pub ghost-can_resume : goal.ghost-can_resume
ghost-can_resume g a = g.s
