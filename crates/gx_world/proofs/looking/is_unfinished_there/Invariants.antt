use Rattle.gx_world.proofs.looking.is_unfinished_there.Given as goal

abbrev pub ghost-unfinished : goal.ghost-unfinished
ghost-unfinished g a = g.c
