use Rattle.gx_law_lone.proofs.AllWait.{alone-blocked}
use Rattle.gx_law_lone.proofs.lone.lone_rounds_find_all_waits_blocked.Goals as goal

pub returns : goal.returns
returns c = λ script steps edges some numbered sessions inserts is nothing are. alone-blocked script steps edges some numbered sessions inserts is nothing are
