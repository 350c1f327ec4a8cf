use Rattle.std.proofs.Common.{◌∙◌, ap, rules}
use Rattle.std.proofs.lemmas.Fn.{always_returns_same}
use Rattle.std.proofs.lemmas.List.Sorted.{ranks_by}
use Rattle.std.specs.Cmp.{on_total}
use Rattle.std.specs.Ordering.{is_lt}
use Rattle.gx_gather.proofs.Stable.{map-in_order, stably_sorted}
use Rattle.gx_locks.specs.Holds.{claims_of}
use Rattle.gx_locks.specs.declared.hold.Hold.{Hold}
use Rattle.gx_rules.specs.Locks.{claim_order}
use Rattle.gx_node.proofs.Claims.{claim_order-total}
use Rattle.gx_node.proofs.locking.sort_list.Goals as goal

pub returns : goal.returns
returns c =
    let total = claim_order-total c.is_ordered.ensures in
    let ranks = ranks_by total (λ (h : Hold). h.claim) in
    let lt = λ (a b : Hold). is_lt (claim_order a.claim b.claim) in
    let same = always_returns_same _ _ _ (λ a r f k. search rules) in
    ap claims_of (stably_sorted (on_total (λ (h : Hold). h.claim) total) _ _ (c.in_ok-sort_by.ensures.sorted lt ranks same) (c.in_ok-sort_by.ensures.stable lt ranks same))
    ∙ map-in_order (λ (h : Hold). h.claim) claim_order c.args.holds.now.items
