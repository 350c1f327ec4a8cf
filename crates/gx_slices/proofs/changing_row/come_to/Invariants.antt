use Rattle.gx_slices.proofs.changing_row.come_to.Given as goal

abbrev pub ghost-process : goal.ghost-process
ghost-process g a = g.spot
