use Rattle.gx_slices.proofs.changing_rows.change_picked.Given as goal

abbrev pub ghost-change_kept : goal.ghost-change_kept
ghost-change_kept g a = g.stage

abbrev pub ghost-fail_on : goal.ghost-fail_on
ghost-fail_on g a = g.stage
