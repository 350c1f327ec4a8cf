use Rattle.gx_slices.proofs.running.run_select.Given as goal

abbrev pub ghost-select : goal.ghost-select
ghost-select g a = g.found.start
