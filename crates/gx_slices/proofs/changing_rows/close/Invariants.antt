use Rattle.gx_slices.proofs.changing_rows.close.Given as goal

abbrev pub ghost-finish : goal.ghost-finish
ghost-finish g a = g.ending

abbrev pub ghost-stop : goal.ghost-stop
ghost-stop g a = g.ending

abbrev pub ghost-give_up : goal.ghost-give_up
ghost-give_up g a = g.ending
