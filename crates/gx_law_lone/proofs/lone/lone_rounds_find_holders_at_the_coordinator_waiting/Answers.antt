use Rattle.gx_law_lone.proofs.Alone.{alone-here}
use Rattle.gx_law_lone.proofs.lone.lone_rounds_find_holders_at_the_coordinator_waiting.Goals as goal

pub returns : goal.returns
returns c = λ script steps hold some numbered sessions inserts is nothing inside. alone-here script steps hold some numbered sessions inserts is nothing inside
