use Rattle.gx_world.proofs.graphs.graph_of_segment.Given as goal

abbrev pub ghost-graph : goal.ghost-graph
ghost-graph g a = g.s
