use Rattle.gx_law_lone.proofs.Askers.{grouped-victims}
use Rattle.gx_law_lone.proofs.victims.lone_rounds_find_victims_beside_groups.Goals as goal

pub returns : goal.returns
returns c = λ script steps language inserts is a. grouped-victims script language inserts steps is a
