use Rattle.std.proofs.Common.{◌^◌, arith}
use Rattle.gx_read_trace.proofs.Deciding.{bad-is}
use Rattle.gx_read_trace.proofs.OneBad.{is-bad}
use Rattle.gx_read_trace.proofs.Places.{few-places}
use Rattle.gx_read_trace.proofs.laws.the_first_bad_line_is_named.Goals as goal

pub returns : goal.returns
returns c = λ script bytes line few names.
    let small = few-places script.lines 0 script.sessions (2 ^ 32) (omega (arith, few)) in
    (bad-is script names small bytes line, is-bad script names small bytes line)
