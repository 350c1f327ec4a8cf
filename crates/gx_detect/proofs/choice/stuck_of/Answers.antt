use Rattle.std.proofs.Common.{◌∙◌, ap, filter}
use Rattle.gx_detect.specs.Reduce.{is_left}
use Rattle.gx_detect.specs.Settled.{left_in}
use Rattle.gx_detect.specs.Tally.{count_at}
use Rattle.gx_detect.proofs.CoreNames.{if_ok_weaker}
use Rattle.gx_detect.proofs.Graphs.{rest_is_stuck, stuck_is_rest}
use Rattle.gx_detect.proofs.choice.stuck_of.Goals as goal

pub returns : goal.returns
returns c =
    let all = c.args.edges.items in
    let reduced = c.in_ok-reduced.reduced in
    let count = count_at reduced.rest.tally in
    let o = c.in_ok-reduced.ensures in
    if_ok_weaker _ _ c.left_edges-left.result
    (λ left r. λ e.
    let s = r ∙ ap (filter (is_left count)) (c.deref.ensures.value ∙ o.same) in
    (rest_is_stuck all left.items (left_in reduced) count o.largest o.settled.counted.counts s e, stuck_is_rest all left.items (left_in reduced) count o.largest o.settled.counted.counts s e))
    c.left_edges-left.ensures
