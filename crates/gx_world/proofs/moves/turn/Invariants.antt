use Rattle.gx_world.proofs.moves.turn.Given as goal

abbrev pub ghost-coord_turn : goal.ghost-coord_turn
ghost-coord_turn g a = g.moment

abbrev pub ghost-seg_turn : goal.ghost-seg_turn
ghost-seg_turn g a = g.moment
