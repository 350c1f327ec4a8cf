use Rattle.gx_law_lone.proofs.Alone.{alone-meets}
use Rattle.gx_law_lone.proofs.lone.lone_rounds_find_waits_that_meet_somebody.Goals as goal

pub returns : goal.returns
returns c = λ script steps node g some inserts is nothing within waits. alone-meets script steps node g some inserts is nothing within waits
