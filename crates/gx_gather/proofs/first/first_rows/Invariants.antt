use Rattle.std.proofs.Common.{◌≡◌, take}
use Rattle.gx_meaning.specs.Order.{in_order, row_order}
use Rattle.gx_gather.proofs.first.first_rows.Given as goal

abbrev pub invariant-loop-row : goal.invariant-loop-row
invariant-loop-row l = l.first.items ≡ take l.limit (in_order (λ a b. row_order l.keys a.now b.now) (take l.row-index l.rows))
