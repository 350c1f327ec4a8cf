use Rattle.gx_law_groups.proofs.Runs.{bound-after}
use Rattle.gx_law_groups.proofs.laws.slots_tell_what_sessions_do.Goals as goal

pub returns-clause-asks : goal.returns-clause-asks
returns-clause-asks c = λ script steps session language legal let_in there. (bound-after script language steps legal let_in).slotted.who_asks session there

pub returns-clause-holds : goal.returns-clause-holds
returns-clause-holds c = λ script steps session language legal let_in there. (bound-after script language steps legal let_in).slotted.who_holds session there
