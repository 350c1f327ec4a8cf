use Rattle.std.proofs.Common.{◌≡◌, ◌+◌, ◌-◌, ◌<◌, ◌∙◌, Bor, ap, arith, length, sym}
use Rattle.std.specs.Cmp.{on_total}
use Rattle.std.specs.List.{insert}
use Rattle.gx_tree.specs.declared.row.KeyedRow.{KeyedRow}
use Rattle.gx_meaning.specs.Order.{row_order}
use Rattle.gx_gather.proofs.Behind.{look-ends, look-on, rises-first}
use Rattle.gx_gather.proofs.Orders.{row_order-total}
use Rattle.gx_gather.proofs.first.last_place_behind.Goals as goal

pub returns-then-not-is_gt-clause-place : goal.returns-then-not-is_gt-clause-place
returns-then-not-is_gt-clause-place c = λ limit rows is.
    let a = c.args in
    let p = c.loop-place.place in
    let total = on_total (λ (r : Bor KeyedRow). r.now) (row_order-total a.keys.now) in
    let low : p - 1 < length a.first.now = omega (arith, c.loop-place-test.true, c.loop-place.auto.place) in
    let next : p ≡ p - 1 + 1 = omega (arith, c.loop-place-test.true) in
    ap (λ n. insert a.first.now n a.row.now) (sym next)
    ∙ look-ends total (p - 1) p a.first.now a.row.now c.index-first-place.result low c.index-first-place.is next (cc (c.if-not-is_gt.true, c.is_gt.ensures, c.compare_rows.ensures))
    (rises-first total limit rows a.first.now is) c.loop-place.invariant

pub loop-place-preserved : goal.loop-place-preserved
loop-place-preserved c =
    let a = c.args in
    let p = c.loop-place.place in
    let low : p - 1 < length a.first.now = omega (arith, c.loop-place-test.true, c.loop-place.auto.place) in
    let next : p ≡ p - 1 + 1 = omega (arith, c.loop-place-test.true) in
    look-on (λ (x y : Bor KeyedRow). row_order a.keys.now x.now y.now) (p - 1) p a.first.now a.row.now c.index-first-place.result low c.index-first-place.is next
    (cc (c.if-not-is_gt.false, c.is_gt.ensures, c.compare_rows.ensures)) c.loop-place.invariant
