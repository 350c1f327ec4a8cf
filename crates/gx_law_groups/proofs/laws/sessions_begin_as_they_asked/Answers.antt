use Rattle.gx_law_groups.proofs.Runs.{begin-as-asked}
use Rattle.gx_law_groups.proofs.laws.sessions_begin_as_they_asked.Goals as goal

pub returns : goal.returns
returns c = λ script steps language legal let_in. begin-as-asked script language steps legal let_in
