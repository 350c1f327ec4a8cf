use Rattle.std.proofs.Common.{◌^◌, arith}
use Rattle.gx_read_trace.proofs.Places.{few-places}
use Rattle.gx_read_trace.proofs.Stays.{read-back}
use Rattle.gx_read_trace.proofs.laws.what_is_read_is_printed.Goals as goal

pub returns : goal.returns
returns c = λ script lines seen few is. read-back script lines is.last seen (few-places script.lines 0 script.sessions (2 ^ 32) (omega (arith, few))) is.leads is.tells
