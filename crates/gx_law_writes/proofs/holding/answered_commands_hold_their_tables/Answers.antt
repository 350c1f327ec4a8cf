use Rattle.gx_law_writes.proofs.AnswersHold.{answers-held}
use Rattle.gx_law_writes.proofs.holding.answered_commands_hold_their_tables.Goals as goal

pub returns : goal.returns
returns c = λ script events some. answers-held script some events
