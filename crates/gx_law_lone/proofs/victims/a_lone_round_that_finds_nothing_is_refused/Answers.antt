use Rattle.std.proofs.Common.{refl}
use Rattle.gx_law_lone.proofs.victims.a_lone_round_that_finds_nothing_is_refused.Goals as goal

pub returns-clause-refused : goal.returns-clause-refused
returns-clause-refused c = λ script one other h. ((h.1.1.1.1.1.1.0) refl).1.1
