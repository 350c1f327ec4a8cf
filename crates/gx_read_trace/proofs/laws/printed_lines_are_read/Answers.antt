use Rattle.std.proofs.Common.{◌^◌, arith}
use Rattle.gx_read_trace.proofs.Places.{few-places}
use Rattle.gx_read_trace.proofs.Written.{written}
use Rattle.gx_read_trace.proofs.laws.printed_lines_are_read.Goals as goal

pub returns : goal.returns
returns c = λ script seen few is.
    let (last, leads, tells) = written script seen is (few-places script.lines 0 script.sessions (2 ^ 32) (omega (arith, few))) in
    record { last = last; leads = leads; tells = tells }
