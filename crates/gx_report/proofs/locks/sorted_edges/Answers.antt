use Rattle.std.proofs.Common.{◌∙◌, ap, rules}
use Rattle.std.proofs.lemmas.Fn.{always_returns_same}
use Rattle.std.proofs.lemmas.List.Sorted.{ranks_by}
use Rattle.std.specs.Ordering.{is_lt}
use Rattle.gx_waits.specs.declared.edge.Edge.{Edge}
use Rattle.gx_meaning.specs.Order.{in_order}
use Rattle.gx_gather.proofs.Stable.{stably_sorted}
use Rattle.gx_report.specs.LockText.{edge_order}
use Rattle.gx_report.proofs.Edges.{edge_order-total}
use Rattle.gx_report.proofs.locks.sorted_edges.Goals as goal

pub returns : goal.returns
returns c =
    let ranks = ranks_by edge_order-total (λ (e : Edge). e) in
    let lt = λ (a b : Edge). is_lt (edge_order a b) in
    let same = always_returns_same _ _ _ (λ a r f k. search rules) in
    stably_sorted edge_order-total _ _ (c.in_ok-sort_by.ensures.sorted lt ranks same) (c.in_ok-sort_by.ensures.stable lt ranks same)
    ∙ ap (in_order edge_order) c.in_ok-sorted.ensures
