use Rattle.std.proofs.Common.{◌∙◌, ap, refl}
use Rattle.gx_meaning.specs.Groups.{key_of}
use Rattle.gx_gather.proofs.Steps.{row_added}
use Rattle.gx_gather.proofs.partial_answer.group_rows.Goals as goal

pub loop-row-preserved : goal.loop-row-preserved
loop-row-preserved c = λ q.
    row_added c.args.query.now q c.args.rows.now c.loop-row.row-index c.row-item.result _ _ _ _ _ _ c.loop-row-test.true c.row-item.is c.as_slice-in-loop-row.ensures
    (c.in_ok-set.ensures ∙ ap (λ group. key_of group c.row-item.result) c.as_slice.ensures)
    refl (c.in_ok-add_to_group.ensures q) (c.loop-row.invariant q)
