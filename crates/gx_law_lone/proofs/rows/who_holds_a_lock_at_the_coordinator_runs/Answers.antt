use Rattle.gx_law_lone.proofs.Holders.{holder-runs}
use Rattle.gx_law_lone.proofs.rows.who_holds_a_lock_at_the_coordinator_runs.Goals as goal

pub returns : goal.returns
returns c = λ script events hold some inside. holder-runs script some events hold inside
