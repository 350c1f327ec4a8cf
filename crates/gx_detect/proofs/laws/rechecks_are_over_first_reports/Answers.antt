use Rattle.gx_detect.proofs.Complete.{over_first}
use Rattle.gx_detect.proofs.laws.rechecks_are_over_first_reports.Goals as goal

pub returns : goal.returns
returns c = over_first
