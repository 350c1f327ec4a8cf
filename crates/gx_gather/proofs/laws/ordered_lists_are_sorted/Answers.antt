use Rattle.gx_gather.proofs.Ordered.{in_order-permutation, in_order-sorted}
use Rattle.gx_gather.proofs.Orders.{group_order-total, row_order-total}
use Rattle.gx_gather.proofs.laws.ordered_lists_are_sorted.Goals as goal

pub returns-clause-rows : goal.returns-clause-rows
returns-clause-rows c = λ keys rows. (in_order-permutation (row_order-total keys) rows, in_order-sorted (row_order-total keys) rows)

pub returns-clause-groups : goal.returns-clause-groups
returns-clause-groups c = λ keys groups. (in_order-permutation (group_order-total keys) groups, in_order-sorted (group_order-total keys) groups)
