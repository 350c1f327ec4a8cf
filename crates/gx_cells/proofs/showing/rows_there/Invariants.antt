use Rattle.gx_cells.proofs.showing.rows_there.Given as goal

abbrev pub ghost-final_rows : goal.ghost-final_rows
ghost-final_rows g a = g.s
