use Rattle.gx_ordered.proofs.steps.may_stand.Given as goal

abbrev pub ghost-is_rising : goal.ghost-is_rising
ghost-is_rising g a = g.steps

abbrev pub ghost-is_event_at : goal.ghost-is_event_at
ghost-is_event_at g a = g.steps
