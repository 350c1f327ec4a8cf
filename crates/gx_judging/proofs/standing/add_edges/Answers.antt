use Rattle.std.proofs.lemmas.List.{get_or_default}
use Rattle.gx_detect.proofs.Gathered.{mapped_behind}
use Rattle.gx_judging.proofs.standing.add_edges.Goals as goal

pub loop-edge-preserved : goal.loop-edge-preserved
loop-edge-preserved c =
    let l = c.loop-edge in
    mapped_behind (λ edge. record { node = c.args.graph.now.node; edge = edge }) _ l.edge-index _ c.loop-edge-test.true (get_or_default _ _ _ _ c.loop-edge-test.true)
    c.args.edges.now.items l.edges.items c.push.new.self.items l.invariant c.in_ok-push.ensures.items
