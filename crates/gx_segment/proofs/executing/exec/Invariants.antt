use Rattle.gx_segment.proofs.executing.exec.Given as goal

abbrev pub ghost-find_way : goal.ghost-find_way
ghost-find_way g a = g.was

abbrev pub ghost-repeat : goal.ghost-repeat
ghost-repeat g a = g.was

abbrev pub ghost-run : goal.ghost-run
ghost-run g a = g.was
