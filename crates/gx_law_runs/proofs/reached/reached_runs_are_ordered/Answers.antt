use Rattle.std.specs.Prelude.{[]}
use Rattle.gx_store.specs.Ordered.{AreOrdered}
use Rattle.gx_law_order.proofs.Ordered.{world_well}
use Rattle.gx_law_runs.proofs.Reaching.{by-events}
use Rattle.gx_law_runs.proofs.reached.reached_runs_are_ordered.Goals as goal

pub returns : goal.returns
returns c = λ script steps some is. by-events script steps is (AreOrdered script []) (λ es. (world_well script some es).steps)
