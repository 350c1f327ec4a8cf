use Rattle.std.proofs.Common.{◌≡◌, ◌≤◌, ◌∙◌, Bor, List, arith, length, subst}
use Rattle.std.specs.Cmp.{on_total}
use Rattle.std.specs.List.{insert}
use Rattle.gx_tree.specs.declared.row.KeyedRow.{KeyedRow}
use Rattle.gx_meaning.specs.Order.{row_order}
use Rattle.gx_gather.specs.First.{behind}
use Rattle.gx_gather.proofs.Behind.{first-past, first-put}
use Rattle.gx_gather.proofs.Orders.{row_order-total}
use Rattle.gx_gather.proofs.first.put_behind.Goals as goal

pub returns-in_ok-put_at : goal.returns-in_ok-put_at
returns-in_ok-put_at c = λ rows is.
    let a = c.args in
    let place = c.place_behind-place.result in
    let value = c.as_slice.ensures.value in
    let put = subst (λ (ys : List (Bor KeyedRow)). insert ys place a.row ≡ behind (λ p q. row_order a.keys.now p.now q.now) a.row ys) value (c.place_behind-place.ensures.place a.limit rows (value ∙ is)) in
    first-put (on_total (λ (r : Bor KeyedRow). r.now) (row_order-total a.keys.now)) a.limit rows a.first.now.items c.put_at.new.first.items a.row place is put c.in_ok-put_at.ensures

pub returns-else-place-limit : goal.returns-else-place-limit
returns-else-place-limit c = λ rows is.
    let a = c.args in
    let place = c.place_behind-place.result in
    let value = c.as_slice.ensures.value in
    let put = subst (λ (ys : List (Bor KeyedRow)). insert ys place a.row ≡ behind (λ p q. row_order a.keys.now p.now q.now) a.row ys) value (c.place_behind-place.ensures.place a.limit rows (value ∙ is)) in
    let past : a.limit ≤ place = omega (arith, c.if-place-limit.false) in
    let within = subst (λ (ys : List (Bor KeyedRow)). place ≤ length ys) value c.place_behind-place.ensures.bound in
    first-past (on_total (λ (r : Bor KeyedRow). r.now) (row_order-total a.keys.now)) a.limit rows a.first.now.items a.row place is put past within
