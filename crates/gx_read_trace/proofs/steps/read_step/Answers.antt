use Rattle.std.proofs.lemmas.Result.{err_from_is_err_and}
use Rattle.gx_read_trace.proofs.Stepping.{step_marks_fail, step_ok}
use Rattle.gx_read_trace.proofs.steps.read_step.Goals as goal

pub returns-in_err-marks : goal.returns-in_err-marks
returns-in_err-marks c =
    let p = err_from_is_err_and c.from_residual-in_err-marks.result c.from_residual-in_err-marks.ensures.1 in
    rw (p.1, p.2) (step_marks_fail c.args.script.now c.args.lines.now c.take_moment.new.lines c.read_marks.new.lines c.in_ok-moment.moment c.in_err-marks.field-0.0 c.in_ok-moment.ensures c.in_err-marks.ensures)

pub returns : goal.returns
returns c = step_ok c.args.script.now c.args.lines.now c.take_moment.new.lines c.read_marks.new.lines c.in_ok-moment.moment c.in_ok-marks.marks c.in_ok-moment.ensures c.in_ok-marks.ensures
