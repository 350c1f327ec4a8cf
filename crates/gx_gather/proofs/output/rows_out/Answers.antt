use Rattle.gx_gather.proofs.Steps.{push_next}
use Rattle.gx_gather.proofs.output.rows_out.Goals as goal
use Rattle.std.proofs.Common.{ap, ◌∙◌, ◌++◌, map, drop, ◌+◌}
use Rattle.gx_meaning.specs.Answer.{row_cell}

pub loop-row-preserved : goal.loop-row-preserved
loop-row-preserved c =
    ap (λ out. out ++ map (λ row. map (row_cell row.now) c.args.items.now) (drop (c.loop-row.row-index + 1) c.args.rows.now)) c.in_ok-push.ensures.items
    ∙ push_next (λ row. map (row_cell row.now) c.args.items.now) c.args.rows.now c.loop-row.row-index c.row-item.result _ _ _ c.loop-row-test.true c.row-item.is c.in_ok-row_out.ensures c.loop-row.invariant
