use Rattle.gx_gather.proofs.Steps.{part_added}
use Rattle.gx_gather.proofs.merged.groups_of.Goals as goal

pub loop-part-preserved : goal.loop-part-preserved
loop-part-preserved c = λ q.
    part_added c.args.query.now.items q c.args.parts.now c.loop-part.part-index c.part-item.result _ _ _ _ _ c.loop-part-test.true c.part-item.is c.as_slice.ensures c.part_groups.ensures (c.in_ok-add_groups.ensures q) (c.loop-part.invariant q)
