use Rattle.std.proofs.Common.{ap}
use Rattle.gx_detect.specs.Tally.{count_in, node_cmp}
use Rattle.gx_detect.proofs.Counting.{node-other, others-through}
use Rattle.gx_detect.proofs.node_counts.NodeCounts.lower.Goals as goal

pub returns-clause-elsewhere : goal.returns-clause-elsewhere
returns-clause-elsewhere c = λ n other g.
    let less = c.lower.new.self in
    ap (λ o. count_in o g) (others-through node_cmp c.args.self.now.by_node (c.get_mut.follows.lender less) c.args.node c.in-Some.counts.now less
    c.in-Some.ensures.value (c.get_mut.follows.holds less) n (node-other c.args.node n other))
