use Rattle.gx_law_runs.proofs.Detecting.{may-begin}
use Rattle.gx_law_runs.proofs.rounds.rounds_may_begin_where_none_runs.Goals as goal

pub returns : goal.returns
returns c = λ script steps some is. may-begin script steps some is
