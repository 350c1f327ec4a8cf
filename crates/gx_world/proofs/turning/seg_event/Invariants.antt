use Rattle.gx_world.proofs.turning.seg_event.Given as goal

abbrev pub ghost-seg_receives : goal.ghost-seg_receives
ghost-seg_receives g a = g.at.s

abbrev pub ghost-step : goal.ghost-step
ghost-step g a = g.at.s
