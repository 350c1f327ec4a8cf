use Rattle.gx_segment.proofs.starting.start.Given as goal

abbrev pub ghost-request : goal.ghost-request
ghost-request g a = g.was
