use Rattle.std.proofs.Common.{◌∙◌, ap, [], ◌∷◌, sym, take}
use Rattle.gx_meaning.specs.Aggregates.{aggregate}
use Rattle.gx_meaning.specs.Cells.{combine}
use Rattle.gx_gather.proofs.Combining.{aggregate-append}
use Rattle.gx_gather.proofs.Steps.{take_next}
use Rattle.gx_gather.proofs.tally.aggregate_over.Goals as goal

pub loop-row-preserved : goal.loop-row-preserved
loop-row-preserved c =
    let a = c.args in
    let row = c.row-item.result in
    let before = take c.loop-row.row-index a.rows.now in
    c.in_ok-add_row.ensures ∙ ap (λ cell. combine a.item cell (aggregate (row ∷ []) a.item)) c.loop-row.invariant
    ∙ aggregate-append a.item before (row ∷ [])
    ∙ ap (λ rows. aggregate rows a.item) (sym (take_next a.rows.now c.loop-row.row-index row c.loop-row-test.true c.row-item.is))
