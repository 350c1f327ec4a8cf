use Rattle.gx_law_lone.proofs.Alone.{alone-active}
use Rattle.gx_law_lone.proofs.lone.lone_rounds_find_waiters_active.Goals as goal

pub returns : goal.returns
returns c = λ script steps node g some inserts is nothing within waits. alone-active script steps node g some inserts is nothing within waits
