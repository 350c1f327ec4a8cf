use Rattle.gx_slices.proofs.changing_row.does_row.Given as goal

abbrev pub ghost-look_at : goal.ghost-look_at
ghost-look_at g a = g.stage
