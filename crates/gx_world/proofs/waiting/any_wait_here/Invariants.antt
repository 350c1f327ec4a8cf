use Rattle.gx_world.proofs.waiting.any_wait_here.Given as goal

abbrev pub ghost-any_wait : goal.ghost-any_wait
ghost-any_wait g a = g.c
