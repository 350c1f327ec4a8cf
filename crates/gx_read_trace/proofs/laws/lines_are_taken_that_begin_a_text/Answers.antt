use Rattle.std.proofs.Common.{◌^◌, arith}
use Rattle.gx_read_trace.proofs.Ending.{begins, taken}
use Rattle.gx_read_trace.proofs.Places.{few-places}
use Rattle.gx_read_trace.proofs.laws.lines_are_taken_that_begin_a_text.Goals as goal

pub returns : goal.returns
returns c = λ script lines few.
    let small = few-places script.lines 0 script.sessions (2 ^ 32) (omega (arith, few)) in
    (begins script lines small, taken script lines small)
