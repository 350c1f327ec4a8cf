use Rattle.gx_slices.proofs.inserting.insert.Given as goal

abbrev pub ghost-insert_rows : goal.ghost-insert_rows
ghost-insert_rows g a = g.s
