use Rattle.gx_segment.proofs.executing.run.Given as goal

abbrev pub ghost-start : goal.ghost-start
ghost-start g a = record { script = g.was.script; seg = record g.was.seg { horizon = a.held.now.store.horizon } }
