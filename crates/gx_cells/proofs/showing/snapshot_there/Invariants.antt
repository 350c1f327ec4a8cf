use Rattle.gx_cells.proofs.showing.snapshot_there.Given as goal

abbrev pub ghost-final_snapshot : goal.ghost-final_snapshot
ghost-final_snapshot g a = g.c
