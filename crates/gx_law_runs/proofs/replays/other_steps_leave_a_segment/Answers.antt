use Rattle.gx_law_runs.proofs.Moving.{segment-left}
use Rattle.gx_law_runs.proofs.replays.other_steps_leave_a_segment.Goals as goal

pub returns : goal.returns
returns c = λ script node steps step away. segment-left script steps step node away
