use Rattle.std.proofs.Common.{rules}
use Rattle.gx_report.specs.TraceText.{step_lines}
use Rattle.gx_report.proofs.Adding.{added-next}
use Rattle.gx_report.proofs.trace.push_trace.Goals as goal

pub loop-place-preserved : goal.loop-place-preserved
loop-place-preserved c =
    added-next (step_lines c.args.script.now) c.args.run.now.steps c.loop-place.place c.at.result _ _ _ (search rules) (c.at.ensures _) c.loop-place.invariant c.in_ok-push_step.ensures
