use Rattle.std.proofs.Common.{◌≡◌, ◌++◌, take, drop}
use Rattle.gx_meaning.specs.Order.{row_order}
use Rattle.gx_gather.specs.First.{behind}
use Rattle.gx_gather.proofs.first.last_place_behind.Given as goal

abbrev pub invariant-loop-place : goal.invariant-loop-place
invariant-loop-place l =
    behind (λ a b. row_order l.keys a.now b.now) l.row (take l.place l.first) ++ drop l.place l.first ≡ behind (λ a b. row_order l.keys a.now b.now) l.row l.first
