use Rattle.std.proofs.Common.{◌∙◌, ap}
use Rattle.std.specs.BTreeMap.{get}
use Rattle.gx_detect.specs.Tally.{count_in, node_cmp}
use Rattle.gx_detect.proofs.Counting.{always-ok, node-other, others-through}
use Rattle.gx_detect.proofs.node_counts.NodeCounts.raise.Goals as goal

pub returns-in-Some-clause-elsewhere : goal.returns-in-Some-clause-elsewhere
returns-in-Some-clause-elsewhere c = always-ok c.raise.result _ (λ n other g.
    let more = c.raise.new.self in
    ap (λ o. count_in o g) (others-through node_cmp c.args.self.now.by_node (c.get_mut.follows.lender more) c.args.node c.in-Some.counts.now more
    c.in-Some.ensures.value (c.get_mut.follows.holds more) n (node-other c.args.node n other)))

pub returns-in_ok-insert-in-None-clause-elsewhere : goal.returns-in_ok-insert-in-None-clause-elsewhere
returns-in_ok-insert-in-None-clause-elsewhere c = λ n other g.
    ap (λ o. count_in o g) (c.in_ok-insert-in-None.ensures.updates.2 n (node-other c.args.node n other)
    ∙ ap (λ m. get node_cmp m n) c.get_mut.follows.holds-at-none)
