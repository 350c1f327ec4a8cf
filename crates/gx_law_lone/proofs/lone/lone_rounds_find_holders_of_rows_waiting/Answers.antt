use Rattle.gx_law_lone.proofs.Alone.{alone-waits}
use Rattle.gx_law_lone.proofs.lone.lone_rounds_find_holders_of_rows_waiting.Goals as goal

pub returns : goal.returns
returns c = λ script steps node hold rid some inserts is nothing there inside tuple. alone-waits script steps node hold rid some inserts is nothing there inside tuple
