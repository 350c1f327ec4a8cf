use Rattle.gx_slices.proofs.changing_rows.does_row_at.Given as goal

abbrev pub ghost-does_row : goal.ghost-does_row
ghost-does_row g a = g.stage
