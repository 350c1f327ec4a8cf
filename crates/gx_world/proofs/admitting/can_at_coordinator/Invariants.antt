use Rattle.gx_world.proofs.admitting.can_at_coordinator.Given as goal

abbrev pub ghost-can : goal.ghost-can
ghost-can g a = g.c
