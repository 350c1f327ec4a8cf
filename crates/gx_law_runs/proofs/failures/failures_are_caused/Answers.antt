use Rattle.gx_law_runs.proofs.Steps.{behind-few}
use Rattle.gx_law_runs.proofs.failures.failures_are_caused.Goals as goal

pub returns : goal.returns
returns c = behind-few
