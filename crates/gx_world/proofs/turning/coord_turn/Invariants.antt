use Rattle.gx_world.proofs.turning.coord_turn.Given as goal

abbrev pub ghost-coord_step : goal.ghost-coord_step
ghost-coord_step g a = record { c = g.at.w.coord; here = g.at.here }

abbrev pub ghost-push_step : goal.ghost-push_step
ghost-push_step g a = a.network.now.script.value.segments
