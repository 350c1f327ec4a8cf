use Rattle.std.specs.Prelude.{[]}
use Rattle.gx_law_runs.proofs.Replaying.{letters-last}
use Rattle.gx_law_runs.proofs.replays.steps_post_their_messages.Goals as goal

pub returns : goal.returns
returns c = λ steps step. letters-last [] steps step
