use Rattle.gx_world.proofs.turning.seg_turn.Given as goal

abbrev pub ghost-seg_step : goal.ghost-seg_step
ghost-seg_step g a = record { s = g.moment.w.segs a.at.0; here = g.moment.here }

abbrev pub ghost-push_step : goal.ghost-push_step
ghost-push_step g a = a.network.now.script.value.segments
