use Rattle.gx_law_runs.proofs.Replaying.{world-replayed}
use Rattle.gx_law_runs.proofs.replays.nodes_are_replayed.Goals as goal

pub returns : goal.returns
returns c = λ script events. world-replayed script events
