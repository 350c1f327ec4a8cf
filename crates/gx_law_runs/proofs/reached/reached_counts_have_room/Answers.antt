use Rattle.gx_law_runs.specs.Reached.{HasRoomAfter}
use Rattle.gx_law_runs.proofs.Reaching.{by-events, room-after}
use Rattle.gx_law_runs.proofs.reached.reached_counts_have_room.Goals as goal

pub returns : goal.returns
returns c = λ script steps some is. by-events script steps is (HasRoomAfter script) (room-after script some)
