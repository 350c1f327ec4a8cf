use Rattle.gx_law_runs.proofs.Moving.{coordinator-moved}
use Rattle.gx_law_runs.proofs.replays.coordinators_steps_move_it.Goals as goal

pub returns : goal.returns
returns c = λ script steps step next. coordinator-moved script steps step next
