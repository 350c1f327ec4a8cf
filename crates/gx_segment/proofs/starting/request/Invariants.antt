use Rattle.gx_segment.proofs.starting.request.Given as goal

abbrev pub ghost-proceed : goal.ghost-proceed
ghost-proceed g a = record { script = g.was.script; seg = record g.was.seg { locks = a.held.now.locks } }
