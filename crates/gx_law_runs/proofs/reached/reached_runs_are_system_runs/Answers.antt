use Rattle.gx_rules.specs.System.{IsSystemRun}
use Rattle.gx_law_order.proofs.Follows.{world_follows}
use Rattle.gx_law_runs.proofs.Reaching.{by-events}
use Rattle.gx_law_runs.proofs.reached.reached_runs_are_system_runs.Goals as goal

pub returns : goal.returns
returns c = λ script steps some is. by-events script steps is (λ ss. IsSystemRun script (record { steps = ss })) (world_follows script some)
