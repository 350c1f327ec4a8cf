use Rattle.std.proofs.lemmas.Result.{err_from_is_err_and}
use Rattle.gx_read_trace.proofs.Onward.{rows_fail}
use Rattle.gx_read_trace.proofs.answers.read_rows.Goals as goal

pub returns-in_err-row : goal.returns-in_err-row
returns-in_err-row c =
    let p = err_from_is_err_and c.from_residual.result c.from_residual.ensures.1 in
    rw (p.1, p.2) (rows_fail c.args.lines.now c.args.count c.loop-row._row c.loop-row.lines c.take_out_row.new.lines c.loop-row.rows c.in_err-row.field-0.0 c.loop-row-test.true c.loop-row.invariant c.in_err-row.ensures)
