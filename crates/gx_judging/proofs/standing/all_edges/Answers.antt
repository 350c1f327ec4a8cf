use Rattle.std.proofs.Common.{◌∙◌, ap, sym, ◌++◌}
use Rattle.gx_detect.proofs.Graphs.{placed, edges_of-take_more}
use Rattle.gx_judging.proofs.standing.all_edges.Goals as goal

pub loop-graph-preserved : goal.loop-graph-preserved
loop-graph-preserved c =
    c.in_ok-add_edges.ensures ∙ ap (λ l. l ++ placed c.graph-item.result) c.loop-graph.invariant
    ∙ sym (edges_of-take_more c.args.graphs.now c.loop-graph.graph-index c.graph-item.result c.loop-graph-test.true c.graph-item.is)
