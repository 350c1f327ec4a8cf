use Rattle.gx_slices.proofs.running.run_insert.Given as goal

abbrev pub ghost-insert : goal.ghost-insert
ghost-insert g a = g.found.start
