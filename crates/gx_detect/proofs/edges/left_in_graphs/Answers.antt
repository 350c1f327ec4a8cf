use Rattle.std.proofs.Common.{◌∙◌, ◌∷◌, ◌++◌, [], ap}
use Rattle.gx_detect.specs.Reduce.{is_left, kept_edges}
use Rattle.gx_detect.specs.Tally.{count_at}
use Rattle.gx_detect.proofs.Gathered.{mapped}
use Rattle.gx_detect.proofs.edges.left_in_graphs.Goals as goal

pub loop-graph-preserved : goal.loop-graph-preserved
loop-graph-preserved c =
    let l = c.loop-graph in
    mapped (kept_edges (is_left (count_at c.args.tally.now))) c.args.graphs.now l.graph-index c.graph-item.result c.loop-graph-test.true c.graph-item.is l.left.items c.push.new.self.items
    l.invariant (c.in_ok-push.ensures.items ∙ ap (λ graph. l.left.items ++ graph ∷ []) c.in_ok-left_in_graph.ensures)
