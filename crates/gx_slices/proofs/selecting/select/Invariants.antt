use Rattle.gx_slices.proofs.selecting.select.Given as goal

abbrev pub ghost-select_by : goal.ghost-select_by
ghost-select_by g a = g.s
