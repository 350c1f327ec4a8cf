use Rattle.std.proofs.Common.{◌∙◌, Bor, ap, map, rules}
use Rattle.std.proofs.lemmas.Fn.{always_returns_same}
use Rattle.std.proofs.lemmas.List.Sorted.{ranks_by}
use Rattle.std.specs.Cmp.{on_total}
use Rattle.std.specs.Ordering.{is_lt}
use Rattle.gx_tree.specs.declared.row.KeyedRow.{KeyedRow}
use Rattle.gx_meaning.specs.Order.{row_order}
use Rattle.gx_gather.proofs.Orders.{row_order-total}
use Rattle.gx_gather.proofs.Stable.{map-in_order, stably_sorted}
use Rattle.gx_gather.proofs.order.sort_rows.Goals as goal

pub returns : goal.returns
returns c =
    let keys = c.args.keys.now in
    let ranks = ranks_by (row_order-total keys) (λ (row : Bor KeyedRow). row.now) in
    let lt = λ (a b : Bor KeyedRow). is_lt (row_order keys a.now b.now) in
    let same = always_returns_same _ _ _ (λ a r f k. search rules) in
    ap (map (λ (row : Bor KeyedRow). row.now)) (stably_sorted (on_total (λ (row : Bor KeyedRow). row.now) (row_order-total keys)) _ _ (c.in_ok-sort_by.ensures.sorted lt ranks same) (c.in_ok-sort_by.ensures.stable lt ranks same))
    ∙ map-in_order (λ (row : Bor KeyedRow). row.now) (row_order keys) c.args.rows.now.items
