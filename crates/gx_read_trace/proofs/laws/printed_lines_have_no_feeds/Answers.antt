use Rattle.std.proofs.Common.{◌^◌, arith}
use Rattle.gx_read_trace.proofs.Feedless.{lines-plain}
use Rattle.gx_read_trace.proofs.Places.{few-places}
use Rattle.gx_read_trace.proofs.laws.printed_lines_have_no_feeds.Goals as goal

pub returns : goal.returns
returns c = λ script seen few names is.
    lines-plain script seen names.sessions names.tables (few-places script.lines 0 script.sessions (2 ^ 32) (omega (arith, few))) is
