use Rattle.std.specs.Prelude.{[]}
use Rattle.gx_store.specs.Protocol.{DoStepsFollow}
use Rattle.gx_law_order.proofs.Whole.{world-follows}
use Rattle.gx_law_runs.proofs.Reaching.{by-events}
use Rattle.gx_law_runs.proofs.reached.reached_runs_follow_the_protocol.Goals as goal

pub returns : goal.returns
returns c = λ script steps some is. by-events script steps is (DoStepsFollow script []) (world-follows script some)
