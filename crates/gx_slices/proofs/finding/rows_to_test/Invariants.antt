use Rattle.gx_slices.proofs.finding.rows_to_test.Given as goal

abbrev pub ghost-rows_by_column : goal.ghost-rows_by_column
ghost-rows_by_column g a = g.all
