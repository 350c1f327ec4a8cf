use Rattle.gx_world.proofs.waiting.ready_there.Given as goal

abbrev pub ghost-ready : goal.ghost-ready
ghost-ready g a = g.s
