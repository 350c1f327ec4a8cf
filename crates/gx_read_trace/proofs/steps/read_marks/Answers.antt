use Rattle.std.proofs.lemmas.Result.{err_from_is_err_and}
use Rattle.gx_read_trace.proofs.Stepping.{marks_fail}
use Rattle.gx_read_trace.proofs.steps.read_marks.Goals as goal

pub returns-in_err-mark : goal.returns-in_err-mark
returns-in_err-mark c =
    let p = err_from_is_err_and c.from_residual.result c.from_residual.ensures.1 in
    rw (p.1, p.2) (marks_fail c.args.script.now c.args.lines.now c.loop-alloc.lines c.read_mark.new.lines c.loop-alloc.marks c.in_err-mark.field-0.0 c.loop-alloc.invariant c.in_err-mark.ensures.read)
