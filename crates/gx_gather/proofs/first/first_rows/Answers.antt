use Rattle.std.proofs.Common.{◌∙◌, Bor, List, ap, sym, take}
use Rattle.gx_tree.specs.declared.row.KeyedRow.{KeyedRow}
use Rattle.gx_meaning.specs.Order.{in_order, row_order}
use Rattle.gx_gather.proofs.Steps.{take_next}
use Rattle.gx_gather.proofs.first.first_rows.Goals as goal

pub loop-row-preserved : goal.loop-row-preserved
loop-row-preserved c =
    let a = c.args in
    let i = c.loop-row.row-index in
    c.in_ok-put_behind.ensures (take i a.rows.now) c.loop-row.invariant
    ∙ ap (λ (rows : List (Bor KeyedRow)). take a.limit (in_order (λ p q. row_order a.keys.now p.now q.now) rows)) (sym (take_next a.rows.now i c.row-item.result c.loop-row-test.true c.row-item.is))
