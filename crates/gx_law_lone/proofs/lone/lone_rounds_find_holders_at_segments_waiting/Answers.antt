use Rattle.gx_law_lone.proofs.Alone.{alone-holders}
use Rattle.gx_law_lone.proofs.lone.lone_rounds_find_holders_at_segments_waiting.Goals as goal

pub returns : goal.returns
returns c = λ script steps node hold some numbered sessions inserts is nothing there inside. alone-holders script steps node hold some numbered sessions inserts is nothing there inside
