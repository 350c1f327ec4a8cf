use Rattle.std.proofs.Common.{◌^◌, arith}
use Rattle.gx_read_trace.proofs.Deciding.{is-seen, seen-is}
use Rattle.gx_read_trace.proofs.Places.{few-places}
use Rattle.gx_read_trace.proofs.laws.texts_are_read_as_seen.Goals as goal

pub returns : goal.returns
returns c = λ script bytes seen few names.
    let small = few-places script.lines 0 script.sessions (2 ^ 32) (omega (arith, few)) in
    (seen-is script names small bytes seen, λ shown. is-seen script names small bytes seen shown.0 shown.1)
