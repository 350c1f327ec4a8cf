use Rattle.gx_ordered.proofs.steps.may_follow.Given as goal

abbrev pub ghost-may_stand : goal.ghost-may_stand
ghost-may_stand g a = g.steps

abbrev pub ghost-note_step : goal.ghost-note_step
ghost-note_step g a = g.steps
