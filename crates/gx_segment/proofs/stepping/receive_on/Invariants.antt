use Rattle.gx_segment.proofs.stepping.receive_on.Given as goal

abbrev pub ghost-take_message : goal.ghost-take_message
ghost-take_message g a = g.was
