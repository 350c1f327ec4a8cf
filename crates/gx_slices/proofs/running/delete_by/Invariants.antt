use Rattle.gx_slices.proofs.running.delete_by.Given as goal

abbrev pub ghost-change_by : goal.ghost-change_by
ghost-change_by g a = g.found
