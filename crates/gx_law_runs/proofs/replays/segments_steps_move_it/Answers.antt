use Rattle.gx_law_runs.proofs.Moving.{segment-moved}
use Rattle.gx_law_runs.proofs.replays.segments_steps_move_it.Goals as goal

pub returns : goal.returns
returns c = λ script steps step next. segment-moved script steps step next
