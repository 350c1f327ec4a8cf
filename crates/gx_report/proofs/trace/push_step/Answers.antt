use Rattle.std.proofs.Common.{rules}
use Rattle.gx_report.specs.TraceText.{mark_line}
use Rattle.gx_report.proofs.Adding.{added-next}
use Rattle.gx_report.proofs.trace.push_step.Goals as goal

pub loop-mark-preserved : goal.loop-mark-preserved
loop-mark-preserved c =
    added-next (mark_line c.args.script.now) c.args.step.now.marks c.loop-mark.mark-index c.mark-item.result _ _ _ (search rules) (search rules) c.loop-mark.invariant c.in_ok-push_mark_line.ensures
