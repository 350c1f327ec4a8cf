use Rattle.gx_slices.proofs.changing_rows.give_up.Given as goal

abbrev pub ghost-answer : goal.ghost-answer
ghost-answer g a = g.ending
