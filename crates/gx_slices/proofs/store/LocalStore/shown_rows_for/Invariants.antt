use Rattle.gx_slices.proofs.store.LocalStore.shown_rows_for.Given as goal

abbrev pub ghost-rows_to_test : goal.ghost-rows_to_test
ghost-rows_to_test a = a.dists.now
