use Rattle.gx_segment.proofs.messages.take_event.Given as goal

abbrev pub ghost-take_message : goal.ghost-take_message
ghost-take_message g a = g.was

abbrev pub ghost-resume : goal.ghost-resume
ghost-resume g a = g.was
