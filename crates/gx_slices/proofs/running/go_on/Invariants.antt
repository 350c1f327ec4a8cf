use Rattle.gx_slices.proofs.running.go_on.Given as goal

abbrev pub ghost-go_on_at_row : goal.ghost-go_on_at_row
ghost-go_on_at_row g a = g.found

abbrev pub ghost-run_slice : goal.ghost-run_slice
ghost-run_slice g a = g.found
