use Rattle.gx_slices.proofs.changing_row.change_shown.Given as goal

abbrev pub ghost-change_row : goal.ghost-change_row
ghost-change_row g a = g.stage
