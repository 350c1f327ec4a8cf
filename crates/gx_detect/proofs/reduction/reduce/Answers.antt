use Rattle.std.proofs.Common.{◌∙◌, ap, subst}
use Rattle.gx_waits.specs.LocalGraph.{edges_of}
use Rattle.gx_detect.specs.declared.place.Aim.TheVariants.{Stuck}
use Rattle.gx_detect.specs.Reduce.{is_left}
use Rattle.gx_detect.specs.Settled.{IsLargest, left_in}
use Rattle.gx_detect.specs.Tally.{count_at}
use Rattle.gx_detect.proofs.CoreNames.{if_ok_weaker}
use Rattle.gx_detect.proofs.Graphs.{edges_of-kept_edges, rest_is_stuck, stuck_is_rest, rest_never_finishes, unnamed_finish}
use Rattle.gx_detect.proofs.reduction.reduce.Goals as goal

pub returns-clause-stuck : goal.returns-clause-stuck
returns-clause-stuck c =
    let edges = edges_of c.args.graphs.now in
    let reduced = c.in_ok-reduced.reduced in
    let part = left_in reduced in
    let count = count_at reduced.rest.tally in
    let largest : IsLargest Stuck edges part = subst (λ l. IsLargest Stuck l part) c.in_ok-all_edges.ensures c.in_ok-reduced.ensures.largest in
    let counts = c.in_ok-reduced.ensures.settled.counted.counts in
    if_ok_weaker _ _ c.left_in_graphs-rest.result
    (λ rest k. let r = ap edges_of k ∙ edges_of-kept_edges (is_left count) c.args.graphs.now in λ e. (rest_is_stuck edges (edges_of rest.items) part count largest counts r e, stuck_is_rest edges (edges_of rest.items) part count largest counts r e))
    c.left_in_graphs-rest.ensures

pub returns-clause-never : goal.returns-clause-never
returns-clause-never c =
    let edges = edges_of c.args.graphs.now in
    let reduced = c.in_ok-reduced.reduced in
    let part = left_in reduced in
    let count = count_at reduced.rest.tally in
    let largest : IsLargest Stuck edges part = subst (λ l. IsLargest Stuck l part) c.in_ok-all_edges.ensures c.in_ok-reduced.ensures.largest in
    let counts = c.in_ok-reduced.ensures.settled.counted.counts in
    if_ok_weaker _ _ c.left_in_graphs-rest.result
    (λ rest k. let r = ap edges_of k ∙ edges_of-kept_edges (is_left count) c.args.graphs.now in rest_never_finishes edges (edges_of rest.items) part count largest counts r)
    c.left_in_graphs-rest.ensures

pub returns-clause-finish : goal.returns-clause-finish
returns-clause-finish c =
    let edges = edges_of c.args.graphs.now in
    let reduced = c.in_ok-reduced.reduced in
    let part = left_in reduced in
    let count = count_at reduced.rest.tally in
    let largest : IsLargest Stuck edges part = subst (λ l. IsLargest Stuck l part) c.in_ok-all_edges.ensures c.in_ok-reduced.ensures.largest in
    let counts = c.in_ok-reduced.ensures.settled.counted.counts in
    if_ok_weaker _ _ c.left_in_graphs-rest.result
    (λ rest k. let r = ap edges_of k ∙ edges_of-kept_edges (is_left count) c.args.graphs.now in unnamed_finish edges (edges_of rest.items) part count largest counts r)
    c.left_in_graphs-rest.ensures

pub returns-clause-order : goal.returns-clause-order
returns-clause-order c = if_ok_weaker _ _ c.left_in_graphs-rest.result (λ rest k. (is_left (count_at c.in_ok-reduced.reduced.rest.tally), k)) c.left_in_graphs-rest.ensures
