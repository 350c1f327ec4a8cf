use Rattle.gx_slices.proofs.running.go_on_at_row.Given as goal

abbrev pub ghost-go_on_at : goal.ghost-go_on_at
ghost-go_on_at g a = g.found
