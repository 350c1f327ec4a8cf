use Rattle.std.proofs.Common.{◌+◌, List, sym, subst}
use Rattle.std.proofs.lemmas.Result.{err_from_is_err_and}
use Rattle.gx_trace.specs.declared.seen.SeenStep.{SeenStep}
use Rattle.gx_read_trace.proofs.Stepping.{StepsSoFar, steps_fail, steps_more}
use Rattle.gx_read_trace.proofs.steps.read_steps.Goals as goal

pub returns-in_err-step : goal.returns-in_err-step
returns-in_err-step c =
    let p = err_from_is_err_and c.from_residual-in_err-step.result c.from_residual-in_err-step.ensures.1 in
    rw (p.1, p.2) (steps_fail c.args.script.now c.args.lines.now c.in_ok-count.count c.loop-step._step c.loop-step.lines c.read_step.new.lines c.loop-step.steps c.in_err-step.field-0.0 c.loop-step-test.true c.loop-step.invariant c.in_err-step.ensures)

pub loop-step-preserved : goal.loop-step-preserved
loop-step-preserved c =
    subst (λ (steps : List SeenStep). StepsSoFar c.args.script.now c.args.lines.now c.in_ok-count.count (c.loop-step._step + 1) c.read_step.new.lines steps) (sym c.in_ok-push.ensures.ok)
    (steps_more c.args.script.now c.args.lines.now c.in_ok-count.count c.loop-step._step c.loop-step.lines c.read_step.new.lines c.loop-step.steps c.in_ok-step.step c.loop-step-test.true c.loop-step.invariant c.in_ok-step.ensures)
