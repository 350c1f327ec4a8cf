use Rattle.std.proofs.Common.{arith}
use Rattle.gx_store.proofs.refused_rounds.two_reports_for_a_round.Goals as goal

pub returns : goal.returns
returns c = λ script h. let e = h.5.5.1.0.newest in omega (arith, e)
