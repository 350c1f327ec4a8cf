use Rattle.std.proofs.Common.{rules, ◌∙◌}
use Rattle.gx_cells.proofs.Marks.{sent-next}
use Rattle.gx_cells.proofs.sending.send_marks.Goals as goal

pub loop-mark-preserved : goal.loop-mark-preserved
loop-mark-preserved g c = (
  c.send_mark.ensures.link ∙ c.loop-mark.invariant.0,
  sent-next c.args.node c.args.clock _ _ _ c.args.marks.now c.loop-mark.mark-index c.mark-item.result (search rules) c.mark-item.is c.loop-mark.invariant.1 c.in_ok-send_mark.ensures.sent,
)
