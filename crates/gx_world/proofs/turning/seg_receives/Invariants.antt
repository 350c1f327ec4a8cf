use Rattle.gx_world.proofs.turning.seg_receives.Given as goal

abbrev pub ghost-receive : goal.ghost-receive
ghost-receive g a = g.s
