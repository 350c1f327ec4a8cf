use Rattle.gx_slices.proofs.running.run_slice.Given as goal

abbrev pub ghost-run_select : goal.ghost-run_select
ghost-run_select g a = g.found

abbrev pub ghost-run_insert : goal.ghost-run_insert
ghost-run_insert g a = g.found

abbrev pub ghost-run_lock : goal.ghost-run_lock
ghost-run_lock g a = g.found

abbrev pub ghost-change_by : goal.ghost-change_by
ghost-change_by g a = g.found

abbrev pub ghost-delete_by : goal.ghost-delete_by
ghost-delete_by g a = g.found
