use Rattle.std.proofs.Common.{rules}
use Rattle.std.proofs.lemmas.Fn.{always_returns_same}
use Rattle.std.proofs.lemmas.List.Sorted.{ranks_by}
use Rattle.std.specs.Cmp.{on_total}
use Rattle.std.specs.Ordering.{is_lt}
use Rattle.gx_meaning.specs.Order.{group_order}
use Rattle.gx_gather.proofs.Orders.{group_order-total}
use Rattle.gx_gather.proofs.Listed.{Entry}
use Rattle.gx_gather.proofs.Stable.{stably_sorted}
use Rattle.gx_gather.proofs.order.sort_entries.Goals as goal

pub returns : goal.returns
returns c =
    let keys = c.args.keys.now in
    let ranks = ranks_by (group_order-total keys) (λ (entry : Entry). entry.0) in
    let lt = λ (a b : Entry). is_lt (group_order keys a.0 b.0) in
    let same = always_returns_same _ _ _ (λ a r f k. search rules) in
    stably_sorted (on_total (λ (entry : Entry). entry.0) (group_order-total keys)) _ _ (c.in_ok-sort_by.ensures.sorted lt ranks same) (c.in_ok-sort_by.ensures.stable lt ranks same)
