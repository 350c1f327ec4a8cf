use Rattle.gx_segment.proofs.commands.find_way.Given as goal

abbrev pub ghost-fits : goal.ghost-fits
ghost-fits g a = g.was
