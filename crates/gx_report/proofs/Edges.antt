-- The order of edges is total.
use Rattle.std.specs.Cmp.{IsTotalOrder, bool_cmp_total, nat_cmp_total, on_total, then_total}
use Rattle.gx_waits.specs.declared.edge.Edge.{Edge}
use Rattle.gx_report.specs.LockText.{edge_order}

pub edge_order-total : IsTotalOrder edge_order
edge_order-total =
    then_total (on_total (λ (e : Edge). e.waiter.0) nat_cmp_total) (then_total (on_total (λ (e : Edge). e.holder.0) nat_cmp_total) (on_total (λ (e : Edge). e.dotted) bool_cmp_total))
