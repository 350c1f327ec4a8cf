use Rattle.std.proofs.lemmas.Result.{err_from_is_err_and}
use Rattle.gx_read_trace.proofs.Stepping.{recheck_fails}
use Rattle.gx_read_trace.proofs.steps.read_recheck.Goals as goal

pub returns-in_err-verdict-clause-read : goal.returns-in_err-verdict-clause-read
returns-in_err-verdict-clause-read c =
    let p = err_from_is_err_and c.from_residual-in_err-verdict.result c.from_residual-in_err-verdict.ensures.1 in
    rw (p.1, p.2) (recheck_fails c.args.script.now c.args.round c.args.edges c.args.lines.now c.read_verdict.new.lines c.in_err-verdict.field-0.0 c.in_err-verdict.ensures.read)
