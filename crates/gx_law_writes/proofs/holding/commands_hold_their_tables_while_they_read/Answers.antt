use Rattle.gx_law_writes.proofs.Reading.{reads-held}
use Rattle.gx_law_writes.proofs.holding.commands_hold_their_tables_while_they_read.Goals as goal

pub returns : goal.returns
returns c = λ script events some. reads-held script some events
