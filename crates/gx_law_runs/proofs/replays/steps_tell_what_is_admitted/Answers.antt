use Rattle.std.proofs.Common.{refl}
use Rattle.gx_rules.specs.Machine.{world_of}
use Rattle.gx_law_runs.proofs.Telling.{can-told}
use Rattle.gx_law_runs.proofs.Replaying.{world-replayed}
use Rattle.gx_law_runs.proofs.replays.steps_tell_what_is_admitted.Goals as goal

pub returns : goal.returns
returns c = λ script events event. can-told script (world_of script events).steps (world_of script events) (world-replayed script events) refl event
