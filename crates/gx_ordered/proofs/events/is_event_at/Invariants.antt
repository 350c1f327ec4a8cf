use Rattle.gx_ordered.proofs.events.is_event_at.Given as goal

abbrev pub ghost-is_delivery : goal.ghost-is_delivery
ghost-is_delivery g a = g.steps
