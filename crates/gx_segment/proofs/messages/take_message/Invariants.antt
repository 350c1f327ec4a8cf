use Rattle.gx_segment.proofs.messages.take_message.Given as goal

abbrev pub ghost-exec : goal.ghost-exec
ghost-exec g a = g.was

abbrev pub ghost-take : goal.ghost-take
ghost-take g a = g.was

abbrev pub ghost-collect : goal.ghost-collect
ghost-collect g a = g.was
