use Rattle.gx_slices.proofs.running.change_by.Given as goal

abbrev pub ghost-change_rows : goal.ghost-change_rows
ghost-change_rows g a = g.found
