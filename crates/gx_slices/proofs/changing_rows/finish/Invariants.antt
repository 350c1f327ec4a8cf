use Rattle.gx_slices.proofs.changing_rows.finish.Given as goal

abbrev pub ghost-answer : goal.ghost-answer
ghost-answer g a = g.ending
