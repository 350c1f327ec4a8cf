use Rattle.gx_slices.proofs.running.run_lock.Given as goal

abbrev pub ghost-lock : goal.ghost-lock
ghost-lock g a = g.found.start
